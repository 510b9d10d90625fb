pub mod ScriptWords
pub mod FewDaemons
pub mod PlacesThere
pub mod Sweeps
pub mod QuestionLines
pub mod ScriptLines
