-- Lemmas of this crate.
mod NoteLines
