mod Longest
mod Steps
