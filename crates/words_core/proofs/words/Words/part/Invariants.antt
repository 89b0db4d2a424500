use Rattle.words_core.proofs.words.Words.part.Given as goal

abbrev pub ghosts-split : goal.ghosts-split
ghosts-split a = record { count = a.n }
