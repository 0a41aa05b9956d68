use Rattle.script_rules.proofs.call_words.+are_left.Given as goal

abbrev pub decreases-are_left : goal.decreases-are_left
decreases-are_left l = l.count
