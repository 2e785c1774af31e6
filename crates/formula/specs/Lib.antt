pub mod Notation
pub mod Grammar
pub mod Meaning
pub mod Faults
pub mod Answer
pub mod Automaton
pub mod Reads
pub mod Running
