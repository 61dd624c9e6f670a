pub mod Rising
pub mod Zone
pub mod Drive
