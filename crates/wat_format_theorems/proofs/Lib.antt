mod Alike
mod FunctionTypes
mod Layouts
mod Places
mod Same
mod Shows
mod Tokens
