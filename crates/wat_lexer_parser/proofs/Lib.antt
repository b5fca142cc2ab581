mod groups
mod names
mod shown
mod words
mod places
mod inside
mod calls
