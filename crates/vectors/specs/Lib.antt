pub mod Poke
