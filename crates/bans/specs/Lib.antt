pub mod Bans
