mod Complete
mod Filled
mod Given
mod Reading
mod Told
