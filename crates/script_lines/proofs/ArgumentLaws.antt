-- Arguments, one after another.
use Rattle.std.proofs.Common.{◌≡◌, Bool, true, false, List, [], ◌∷◌, Option, Some, None, refl, ap, sym, ◌∙◌}
use Rattle.std.specs.Prelude.{codes, option_map, is_some, unwrap_or, if◌then◌else◌}
use Rattle.std.specs.Str.{bytes_eq}
use Rattle.std.proofs.lemmas.Slice.Eq.{bytes_eq-Decides}
use Rattle.call_script.specs.Spelling.{Word}
use Rattle.call_script.specs.Parser.{some_arguments, arguments_to_close, with_argument, is_mark_word, ended}
use Rattle.script_lines.specs.Shapes.{is_ended}
use Rattle.script_lines.specs.Arguments.{listed, behind, behind_some, behind_comma, last_arguments}

unless_with : (w : Word) (o : Option (List Word × List Word))
    → option_map (λ p. p.1) (with_argument w o) ≡ option_map (λ p. p.1) o
unless_with w None = refl
unless_with w (Some p) = refl

module _ (ws : List Word) where
  pub nothing_left : ws ≡ [] → behind_some ws ≡ None
  unfolding behind_some
  nothing_left e = rw e refl

  module _ (w : Word) (xs : List Word) (first : ws ≡ w ∷ xs) where
    pub at_mark : is_mark_word w ≡ true → behind_some ws ≡ None
    unfolding behind_some
    at_mark e = rw first (go xs)
      where
        go : (ys : List Word) → behind_some (w ∷ ys) ≡ None
        go [] = refl
        go (y ∷ ys) = rw e refl

    pub argument_alone : xs ≡ [] → behind_some ws ≡ None
    unfolding behind_some
    argument_alone e = rw (first, e) refl

    module _ (m : Word) (ys : List Word) (second : xs ≡ m ∷ ys) (word : is_mark_word w ≡ false) where
      pub at_close : bytes_eq m (codes ")") ≡ true → behind_some ws ≡ Some ys
      unfolding behind_some
      at_close e = rw (first, second, word, e) refl

      module _ (goes_on : bytes_eq m (codes ")") ≡ false) where
        pub at_comma : bytes_eq m (codes ",") ≡ true → behind_some ws ≡ behind_some ys
        unfolding behind_some
        at_comma e = rw (first, second, word, goes_on, e) (unless_with w (some_arguments ys))

        pub at_other : bytes_eq m (codes ",") ≡ false → behind_some ws ≡ None
        unfolding behind_some
        at_other e = rw (first, second, word, goes_on, e) refl

  pub no_arguments : ws ≡ [] → behind ws ≡ None
  unfolding behind
  no_arguments e = rw e refl

  pub closed_at_once : (w : Word) (xs : List Word) → ws ≡ w ∷ xs → bytes_eq w (codes ")") ≡ true → behind ws ≡ Some xs
  unfolding behind
  closed_at_once w xs first e = rw (first, e) refl

  pub some_at_least : (w : Word) (xs : List Word) → ws ≡ w ∷ xs → bytes_eq w (codes ")") ≡ false
      → behind ws ≡ behind_some ws
  unfolding behind behind_some
  some_at_least w xs first e = rw (first, e) refl

  -- ---- the words behind a comma

  pub no_comma : ws ≡ [] → [] ≡ behind_comma ws
  unfolding behind_comma
  no_comma e = rw e refl

  module _ (w : Word) (xs : List Word) (first : ws ≡ w ∷ xs) where
    pub at_the_comma : bytes_eq w (codes ",") ≡ true → xs ≡ behind_comma ws
    unfolding behind_comma
    at_the_comma e = rw (first, e) refl

    pub before_no_comma : bytes_eq w (codes ",") ≡ false → ws ≡ behind_comma ws
    unfolding behind_comma
    before_no_comma e = first ∙ sym (rw (first, e) refl)

  -- ---- the end of a line

  pub no_opening : ws ≡ [] → None ≡ last_arguments ws
  unfolding last_arguments
  no_opening e = rw e refl

  module _ (w : Word) (xs : List Word) (first : ws ≡ w ∷ xs) where
    pub other_opening : bytes_eq (codes "(") w ≡ false → None ≡ last_arguments ws
    unfolding last_arguments
    other_opening e = rw (first, e) refl

    inside : bytes_eq (codes "(") w ≡ true → last_arguments ws ≡ ended (arguments_to_close xs)
    unfolding last_arguments
    inside e = rw (first, e) refl

    pub all_arguments : (ys : List Word) → bytes_eq (codes "(") w ≡ true → behind xs ≡ Some ys → is_ended ys ≡ true
        → Some (listed xs) ≡ last_arguments ws
    unfolding behind listed
    all_arguments ys e f g = sym (inside e ∙ go (arguments_to_close xs) ys f g)
      where
        go : (o : Option (List Word × List Word)) (ys : List Word) → option_map (λ p. p.1) o ≡ Some ys
            → is_ended ys ≡ true
            → ended o ≡ Some (unwrap_or (option_map (λ p. p.0) o) [])
        go None ys f g = absurd cc
        go (Some (a, [])) ys f g = refl
        go (Some (a, z ∷ zs)) [] f g = absurd cc
        go (Some (a, z ∷ zs)) (y ∷ ys) f g = absurd cc

    pub more_than_arguments : (ys : List Word)
        → bytes_eq (codes "(") w ≡ true → behind xs ≡ Some ys → is_ended ys ≡ false
        → None ≡ last_arguments ws
    unfolding behind
    more_than_arguments ys e f g = sym (inside e ∙ go (arguments_to_close xs) ys f g)
      where
        go : (o : Option (List Word × List Word)) (ys : List Word) → option_map (λ p. p.1) o ≡ Some ys
            → is_ended ys ≡ false
            → ended o ≡ None
        go None ys f g = absurd cc
        go (Some (a, z ∷ zs)) ys f g = refl
        go (Some (a, [])) [] f g = absurd cc
        go (Some (a, [])) (y ∷ ys) f g = absurd cc

    pub arguments_unclosed : bytes_eq (codes "(") w ≡ true → behind xs ≡ None → None ≡ last_arguments ws
    unfolding behind
    arguments_unclosed e f = sym (inside e ∙ go (arguments_to_close xs) f)
      where
        go : (o : Option (List Word × List Word)) → option_map (λ p. p.1) o ≡ None → ended o ≡ None
        go None f = refl
        go (Some p) f = absurd cc

-- ---- the next argument

close-alone : (zs : List Word) → some_arguments (codes ")" ∷ zs) ≡ None
close-alone [] = refl
close-alone (z ∷ zs) = refl

-- where there are some, no `)` comes first
some-there : (ys : List Word) → is_some (some_arguments ys) ≡ true → arguments_to_close ys ≡ some_arguments ys
some-there [] e = absurd cc
some-there (y ∷ zs) e = go (bytes_eq y (codes ")")) refl
  where
    go : (t : Bool) → bytes_eq y (codes ")") ≡ t → arguments_to_close (y ∷ zs) ≡ some_arguments (y ∷ zs)
    go false f = rw f refl
    go true f =
        let y-is : y ≡ codes ")" = (bytes_eq-Decides y (codes ")")).0 f in
        let none : some_arguments (y ∷ zs) ≡ None = ap (λ w. some_arguments (w ∷ zs)) y-is ∙ close-alone zs in
        absurd (cc (none, e))

-- the arguments behind the first one, and what stands behind them all
record Rest (w : Word) (ws xs : List Word) : Type 0 where
  pub listed_on : listed ws ≡ w ∷ listed xs
  pub behind_on : behind ws ≡ behind xs

rest-comma : (w : Word) (ys : List Word) (o : Option (List Word × List Word)) → is_some (with_argument w o) ≡ true
    → is_some o ≡ true
rest-comma w ys None e = e
rest-comma w ys (Some p) e = e

listed-comma : (w : Word) (o : Option (List Word × List Word)) → is_some o ≡ true
    → unwrap_or (option_map (λ p. p.0) (with_argument w o)) [] ≡ w ∷ unwrap_or (option_map (λ p. p.0) o) []
listed-comma w None e = absurd cc
listed-comma w (Some p) e = refl

there : (o : Option (List Word × List Word)) → is_some (option_map (λ p. p.1) o) ≡ true → is_some o ≡ true
there None e = e
there (Some p) e = refl

rest-of : (w : Word) (xs : List Word) → bytes_eq w (codes ")") ≡ false → is_some (behind (w ∷ xs)) ≡ true
    → Rest w (w ∷ xs) (behind_comma xs)
unfolding behind listed behind_comma
rest-of w [] e h = let k : is_some (behind (w ∷ [])) ≡ false = rw e refl in absurd (cc (h, k))
rest-of w (m ∷ ys) e h = at_word (is_mark_word w) refl
  where
    open_at : is_mark_word w ≡ false → arguments_to_close (w ∷ m ∷ ys)
        ≡ (if bytes_eq m (codes ")") then Some (w ∷ [], ys)
        else (if bytes_eq m (codes ",") then with_argument w (some_arguments ys) else None))
    open_at f = rw (e, f) refl

    at_comma' : (u : Bool) → bytes_eq m (codes ",") ≡ u → is_mark_word w ≡ false → bytes_eq m (codes ")") ≡ false
        → Rest w (w ∷ m ∷ ys) (behind_comma (m ∷ ys))
    at_comma' false k f g =
        let none : is_some (behind (w ∷ m ∷ ys)) ≡ false = rw (e, f, g, k) refl in absurd (cc (h, none))
    at_comma' true k f g =
        let all : arguments_to_close (w ∷ m ∷ ys) ≡ with_argument w (some_arguments ys) = rw (e, f, g, k) refl in
        let here : is_some (arguments_to_close (w ∷ m ∷ ys)) ≡ true = there (arguments_to_close (w ∷ m ∷ ys)) h in
        let more : is_some (some_arguments ys) ≡ true =
        rest-comma w ys (some_arguments ys) (ap is_some (sym all) ∙ here) in
        let next : behind_comma (m ∷ ys) ≡ ys = rw k refl in
        record {
          listed_on = ap (λ o. unwrap_or (option_map (λ p. p.0) o) []) all ∙ listed-comma w (some_arguments ys) more
              ∙ ap (λ o. w ∷ unwrap_or (option_map (λ p. p.0) o) []) (sym (some-there ys more))
              ∙ ap (λ zs. w ∷ listed zs) (sym next);
          behind_on = ap (option_map (λ p. p.1)) all ∙ unless_with w (some_arguments ys)
              ∙ ap (option_map (λ p. p.1)) (sym (some-there ys more)) ∙ ap behind (sym next);
        }

    at_close' : (t : Bool) → bytes_eq m (codes ")") ≡ t → is_mark_word w ≡ false
        → Rest w (w ∷ m ∷ ys) (behind_comma (m ∷ ys))
    at_close' false g f = at_comma' (bytes_eq m (codes ",")) refl f g
    at_close' true g f =
        let m-is : m ≡ codes ")" = (bytes_eq-Decides m (codes ")")).0 g in
        let next : behind_comma (m ∷ ys) ≡ m ∷ ys = rw m-is refl in
        let all : arguments_to_close (w ∷ m ∷ ys) ≡ Some (w ∷ [], ys) = rw (e, f, g) refl in
        let closed : arguments_to_close (m ∷ ys) ≡ Some ([], ys) = rw g refl in
        record {
          listed_on = ap (λ o. unwrap_or (option_map (λ p. p.0) o) []) all
              ∙ ap (λ o. w ∷ unwrap_or (option_map (λ p. p.0) o) []) (sym closed) ∙ ap (λ zs. w ∷ listed zs) (sym next);
          behind_on = ap (option_map (λ p. p.1)) all ∙ ap (option_map (λ p. p.1)) (sym closed) ∙ ap behind (sym next);
        }

    at_word : (t : Bool) → is_mark_word w ≡ t → Rest w (w ∷ m ∷ ys) (behind_comma (m ∷ ys))
    at_word false f = at_close' (bytes_eq m (codes ")")) refl f
    at_word true f = let none : is_some (behind (w ∷ m ∷ ys)) ≡ false = rw (e, f) refl in absurd (cc (h, none))

module _ (ws : List Word) (w : Word) (xs : List Word) (first : ws ≡ w ∷ xs) where
  pub none_at_close : bytes_eq w (codes ")") ≡ true → listed ws ≡ []
  unfolding listed
  none_at_close e = rw (first, e) refl

  rest : bytes_eq w (codes ")") ≡ false → is_some (behind ws) ≡ true → Rest w (w ∷ xs) (behind_comma xs)
  rest e h = rest-of w xs e (ap (λ vs. is_some (behind vs)) (sym first) ∙ h)

  pub next_listed : bytes_eq w (codes ")") ≡ false → is_some (behind ws) ≡ true
      → listed ws ≡ w ∷ listed (behind_comma xs)
  next_listed e h = ap listed first ∙ (rest e h).listed_on

  pub next_closed : bytes_eq w (codes ")") ≡ false → is_some (behind ws) ≡ true
      → is_some (behind (behind_comma xs)) ≡ true
  next_closed e h = ap is_some (sym (ap behind first ∙ (rest e h).behind_on)) ∙ h

pub none_listed : (ws : List Word) → ws ≡ [] → listed ws ≡ []
unfolding listed
none_listed ws e = rw e refl

pub ruleset too_short = (nothing_left, argument_alone)

pub ruleset line_ends = (no_opening, all_arguments, arguments_unclosed, more_than_arguments)
