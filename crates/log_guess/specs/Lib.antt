-- What a text of guards gives (Given), and what the code's values stand for there (Places).
pub mod Given
pub mod Places
