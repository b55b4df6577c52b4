-- What each command on a book answers, and when it ends how: Derive and Verify stand apart. Books has the lines for books that are
-- refused, RefusedBooks what the private functions of `verify` say.
pub mod Books
pub mod Derive
pub mod Verify
pub mod RefusedBooks
-- What `blame` and `verify-blame` answer, and when they end how (Blames, Verifying), with their lines (CertificateLines, RefusedCertificates).
pub mod CertificateLines
pub mod Blames
pub mod Verifying
pub mod RefusedCertificates
-- What `levels` answers, and when it ends how (Levels), and its lines (LevelLines). RefusedLevels has what the private functions say.
pub mod LevelLines
pub mod Levels
pub mod RefusedLevels
