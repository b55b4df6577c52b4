mod Sights
mod Rows
