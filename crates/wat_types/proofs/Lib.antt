mod Lists
mod Bytes
mod Formats
mod Spelled
mod Joins
mod Answering
