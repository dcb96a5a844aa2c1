mod Cutting
mod Numerals
mod Windows
