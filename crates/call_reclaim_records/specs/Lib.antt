pub mod Vouch
