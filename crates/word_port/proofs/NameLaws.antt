-- A name tells the words and the races that it was made of.
use Rattle.std.proofs.Common.{ℕ, ◌≡◌, List, [], ◌∷◌, refl, ap, subst, ◌∙◌}
use Rattle.std.proofs.lemmas.List.{take_at, drop_at}
use Rattle.word_port.specs.declared.Race.{Race}
use Rattle.word_port.specs.Port.{PortState}
use Rattle.word_port.specs.History.{IsLegal, with_races}
use Rattle.word_port.specs.Names.{numbers_of, races_of, name_of, words_named, races_named}

pub words_named-name_of : (words : List ℕ) (races : List Race) → words_named (name_of words races) ≡ words
unfolding name_of words_named
words_named-name_of words races = take_at words (numbers_of races) _ refl

races_of-numbers_of : (races : List Race) → races_of (numbers_of races) ≡ races
races_of-numbers_of [] = refl
races_of-numbers_of (r ∷ races) = ap (λ l. r ∷ l) (races_of-numbers_of races)

pub races_named-name_of : (words : List ℕ) (races : List Race) → races_named (name_of words races) ≡ races
unfolding name_of races_named
races_named-name_of words races = ap races_of (drop_at words (numbers_of races) _ refl) ∙ races_of-numbers_of races

-- a log that is legal from what its name tells is legal from what the name was made of
pub legal_from_name : (p : PortState) (words : List ℕ) (host : ℕ) (races : List Race) → p.name ≡ name_of words races → p.host ≡ host
    → IsLegal (words_named p.name) (with_races p.host (races_named p.name) p.log) → IsLegal words (with_races host races p.log)
legal_from_name p words host races named hosts legal =
    subst (λ (n : ℕ). IsLegal words (with_races n races p.log)) hosts
    (subst (λ (l : List Race). IsLegal words (with_races p.host l p.log)) (ap races_named named ∙ races_named-name_of words races)
    (subst (λ (l : List ℕ). IsLegal l (with_races p.host (races_named p.name) p.log)) (ap words_named named ∙ words_named-name_of words races) legal))
