-- Lemmas by which examples compute: the first of some faults (Told), and the tokens of texts (Lexed).
mod Told
mod Lexed
