pub mod Printed
mod Tails
mod Known
