pub mod Tops
pub mod Stripes
