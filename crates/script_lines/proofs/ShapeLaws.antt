-- Words in a row.
use Rattle.std.proofs.Common.{◌≡◌, true, false, List, [], ◌∷◌, Option, Some, None, refl, ap, sym, ◌∙◌}
use Rattle.std.specs.Prelude.{codes, option_map, is_some}
use Rattle.std.specs.Str.{bytes_eq}
use Rattle.std.proofs.lemmas.Slice.Eq.{bytes_eq-Decides}
use Rattle.call_script.specs.Spelling.{Word}
use Rattle.call_script.specs.Parser.{ended, said, and_then, pure}
use Rattle.script_lines.specs.declared.shapes.Shape.{Shape}
use Rattle.script_lines.specs.Shapes.{reads, is_ended, one, two, three, four, opens, opened}

-- what the test says
pub same_word : (text w : Word) → bytes_eq text w ≡ true → w ≡ text
same_word text w e = sym ((bytes_eq-Decides text w).0 e)

-- a word is the last
module _ (s : Shape) (ws : List Word) where
  pub no_word : reads s ws ≡ None → one s ws ≡ None
  unfolding one
  no_word e = ap ended e

  pub last_word : (w : Word) (xs : List Word) → reads s ws ≡ Some (w, xs) → is_ended xs ≡ true → one s ws ≡ Some w
  unfolding one
  last_word w [] e f = ap ended e
  last_word w (x ∷ xs) e f = absurd cc

  pub one_too_many : (w : Word) (xs : List Word) → reads s ws ≡ Some (w, xs) → is_ended xs ≡ false → one s ws ≡ None
  unfolding one
  one_too_many w (x ∷ xs) e f = ap ended e
  one_too_many w [] e f = absurd cc

-- a word before others
module _ (s t : Shape) (ws : List Word) where
  pub no_first : reads s ws ≡ None → two s t ws ≡ None
  unfolding two
  no_first e = rw e refl

  pub no_second : (w : Word) (xs : List Word) → reads s ws ≡ Some (w, xs) → one t xs ≡ None → two s t ws ≡ None
  unfolding two
  no_second w xs e f = rw (e, f) refl

  pub both : (w x : Word) (xs : List Word) → reads s ws ≡ Some (w, xs) → one t xs ≡ Some x → two s t ws ≡ Some (w, x)
  unfolding two
  both w x xs e f = rw (e, f) refl

module _ (s t u : Shape) (ws : List Word) where
  pub no_first_of_three : reads s ws ≡ None → three s t u ws ≡ None
  unfolding three
  no_first_of_three e = rw e refl

  pub no_more_of_three : (w : Word) (xs : List Word) → reads s ws ≡ Some (w, xs) → two t u xs ≡ None
      → three s t u ws ≡ None
  unfolding three
  no_more_of_three w xs e f = rw (e, f) refl

  pub all_three : (w : Word) (xs : List Word) (p : Word × Word) → reads s ws ≡ Some (w, xs) → two t u xs ≡ Some p
      → three s t u ws ≡ Some (w, p)
  unfolding three
  all_three w xs p e f = rw (e, f) refl

module _ (s t u v : Shape) (ws : List Word) where
  pub no_first_of_four : reads s ws ≡ None → four s t u v ws ≡ None
  unfolding four
  no_first_of_four e = rw e refl

  pub no_more_of_four : (w : Word) (xs : List Word) → reads s ws ≡ Some (w, xs) → three t u v xs ≡ None
      → four s t u v ws ≡ None
  unfolding four
  no_more_of_four w xs e f = rw (e, f) refl

  pub all_four : (w : Word) (xs : List Word) (p : Word × (Word × Word)) → reads s ws ≡ Some (w, xs)
      → three t u v xs ≡ Some p
      → four s t u v ws ≡ Some (w, p)
  unfolding four
  all_four w xs p e f = rw (e, f) refl

-- a block opens
module _ (ws : List Word) where
  pub no_block : ws ≡ [] → opens ws ≡ false
  unfolding opens
  no_block e = rw e refl

  module _ (w : Word) (xs : List Word) (first : ws ≡ w ∷ xs) where
    pub no_brace : bytes_eq (codes "{") w ≡ false → opens ws ≡ false
    unfolding opens
    no_brace e = rw (first, e) refl

    pub block_with : bytes_eq (codes "{") w ≡ true → opens ws ≡ is_ended xs
    unfolding opens
    block_with e = rw (first, e) (go xs)
      where
        go : (ys : List Word) → is_some (ended (Some (w, ys))) ≡ is_ended ys
        go [] = refl
        go (y ∷ ys) = refl

module _ (s : Shape) (ws : List Word) where
  pub nothing_opened : reads s ws ≡ None → opened s ws ≡ None
  unfolding opened
  nothing_opened e = rw e refl

  module _ (w : Word) (xs : List Word) (first : reads s ws ≡ Some (w, xs)) where
    -- the word stays, whatever the brace is
    behind : (o : Option (Word × List Word)) → ended (and_then o (λ b. pure w)) ≡ option_map (λ b. w) (ended o)
    behind None = refl
    behind (Some (b, [])) = refl
    behind (Some (b, y ∷ ys)) = refl

    pub word_opened : opens xs ≡ true → opened s ws ≡ Some w
    unfolding opened opens
    word_opened e = rw first (behind (said "{" xs) ∙ go (ended (said "{" xs)) e)
      where
        go : (o : Option Word) → is_some o ≡ true → option_map (λ b. w) o ≡ Some w
        go (Some b) e = refl
        go None e = absurd cc

    pub word_alone : opens xs ≡ false → opened s ws ≡ None
    unfolding opened opens
    word_alone e = rw first (behind (said "{" xs) ∙ go (ended (said "{" xs)) e)
      where
        go : (o : Option Word) → is_some o ≡ false → option_map (λ b. w) o ≡ None
        go None e = refl
        go (Some b) e = absurd cc

pub ruleset one_word = (no_word, last_word, one_too_many)

pub ruleset two_words = (no_first, no_second, both)

pub ruleset three_words = (no_first_of_three, no_more_of_three, all_three)

pub ruleset four_words = (no_first_of_four, no_more_of_four, all_four)

pub ruleset block_opens = (no_block, block_with)

pub ruleset word_opens = (nothing_opened, word_opened, word_alone)
