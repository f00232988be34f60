mod Lasts
mod Percents
