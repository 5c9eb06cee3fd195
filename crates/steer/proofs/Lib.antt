-- Lemmas of this crate.
mod Encodable
mod ProgramForm
-- what is promised at each block's start
mod Conversation
mod Tunnelling
mod Promises
-- the blocks
mod NumberLemmas
mod FlowTests
mod FlowBlock
mod KeyBlock
mod LookBlocks
mod ChecksumLemmas
mod TunnelBlock
mod CountBlock
-- the rule
mod RecordLemmas
mod RuleAgreement
-- the whole
mod WholeProgram
