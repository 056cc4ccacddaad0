mod Digits
mod Words
mod Vectors
