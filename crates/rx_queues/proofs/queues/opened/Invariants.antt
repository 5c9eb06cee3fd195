use Rattle.rx_queues.proofs.queues.opened.Given as goal

abbrev pub ghosts-apart : goal.ghosts-apart
ghosts-apart a = record { purpose = a.purpose }
