pub mod WordsCall
