mod SessionLemmas
mod BlockLemmas
