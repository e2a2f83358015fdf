mod Files
mod Imports
mod Places
mod Steps
mod Turns
