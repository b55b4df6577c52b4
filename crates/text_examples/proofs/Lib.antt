-- Lists of lines of which a test tells each (Lines), entries of maps that compute (Found), and places of derivations (Places).
mod Lines
mod Found
mod Places
