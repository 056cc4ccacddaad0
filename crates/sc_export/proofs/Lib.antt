mod Standing
mod Plain
mod Fields
mod RowsBack
mod Growing
mod Sizes
mod Back
