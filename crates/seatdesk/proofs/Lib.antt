mod Rows
mod Words
