pub mod HintWords
