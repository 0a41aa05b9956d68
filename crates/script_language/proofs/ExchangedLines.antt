-- What the rules see where two settings are exchanged.
use Rattle.std.proofs.Common.{ℕ, ◌≡◌, ◌+◌, Bool, true, false, List, [], ◌∷◌, ◌++◌, Option, Some, None, refl, sym, ◌∙◌, ap, subst, append_assoc}
use Rattle.std.specs.Prelude.{not, ◌||◌, ◌==◌, cond, filter, filter_map, is_some, option_map, sum_by}
use Rattle.std.specs.Str.{bytes_eq}
use Rattle.std.specs.List.{cons_option, list_any}
use Rattle.std.proofs.lemmas.List.Elements.{filter-append, filter_map-append}
use Rattle.std.proofs.lemmas.List.Folds.{list_any-append}
use Rattle.std.proofs.lemmas.List.Sums.{sum_by-cons, sum_by-append}
use Rattle.edl_interface.specs.declared.Interface.{Interface}
use Rattle.call_script.specs.Spelling.{Word}
use Rattle.call_script.specs.Parser.{or_else}
use Rattle.call_script.specs.Settings.{Setting}
use Rattle.call_script.specs.Line.{Line, Set}
use Rattle.call_script.specs.Block.{Block, PlacedLine, home}
use Rattle.call_script.specs.Standing.{Standing, standings_from, lines_of, is_setting, set_to, access_of, temporary_name}
use Rattle.call_script.specs.Faults.{Fault, fault_of, fault_at}
use Rattle.script_laws.specs.FirstFault.{first_of}
use Rattle.script_laws.proofs.FirstFault.{first_of-cons}
use Rattle.script_language.proofs.OrderLaws.{settings-exchanged}
use Rattle.script_language.proofs.SeenLaws.{AreAlike, StandAlike, same-lines, same-broken}

abbrev pub setting_at : ℕ → List Block → Setting → Word → PlacedLine
setting_at n around s w = record { number = n; blocks = around; line = Some (Set s w) }

pub lines-append : (xs ys : List PlacedLine) → lines_of (xs ++ ys) ≡ lines_of xs ++ lines_of ys
lines-append xs ys = filter_map-append (λ l. l.line) xs ys

either : (a b c d : Bool) → (a || (b || (c || d))) ≡ (a || (c || (b || d)))
either true b c d = refl
either false true true d = refl
either false true false d = refl
either false false true d = refl
either false false false d = refl

both-alike : {ls ks xs ys : List Line} → ls ≡ xs → ks ≡ ys → AreAlike xs ys → AreAlike ls ks
both-alike {ls} {ks} {xs} {ys} e k h = subst (λ zs. AreAlike zs ks) (sym e) (subst (λ zs. AreAlike xs zs) (sym k) h)

module _ (f g : Setting) (v w : Word) where
  module _ (before behind : List Line) where
    abbrev pub one : List Line
    one = before ++ Set f v ∷ Set g w ∷ behind

    abbrev pub two : List Line
    two = before ++ Set g w ∷ Set f v ∷ behind

    set-alike : (which : Setting)
        → list_any (λ line. is_some (set_to which line)) one ≡ list_any (λ line. is_some (set_to which line)) two
    set-alike which =
        list_any-append given before (Set f v ∷ Set g w ∷ behind)
        ∙ either (list_any given before) (given (Set f v)) (given (Set g w)) (list_any given behind)
        ∙ sym (list_any-append given before (Set g w ∷ Set f v ∷ behind))
      where
        given : Line → Bool
        given line = is_some (set_to which line)

    names-alike : (name_of : Line → Option Word) → ((s : Setting) (w : Word) → name_of (Set s w) ≡ None)
        → filter_map name_of one ≡ filter_map name_of two
    names-alike name_of none =
        let first = none f v in
        let second = none g w in
        filter_map-append name_of before (Set f v ∷ Set g w ∷ behind)
        ∙ (λ j. filter_map name_of before ++ cons_option (first j) (cons_option (second j) (filter_map name_of behind)))
        ∙ sym (λ j. filter_map name_of before ++ cons_option (second j) (cons_option (first j) (filter_map name_of behind)))
        ∙ sym (filter_map-append name_of before (Set g w ∷ Set f v ∷ behind))

    sums-to : (measure : Line → ℕ) → ((s : Setting) (w : Word) → measure (Set s w) ≡ 0) → (a b : Setting) (x y : Word)
        → sum_by measure (before ++ Set a x ∷ Set b y ∷ behind) ≡ sum_by measure before + (0 + (0 + sum_by measure behind))
    sums-to measure zero a b x y =
        sum_by-append measure before (Set a x ∷ Set b y ∷ behind)
        ∙ ap (λ n. sum_by measure before + n) (sum_by-cons measure (Set a x) (Set b y ∷ behind)
        ∙ (λ j. zero a x j + sum_by measure (Set b y ∷ behind))
        ∙ ap (λ n. 0 + n) (sum_by-cons measure (Set b y) behind ∙ (λ j. zero b y j + sum_by measure behind)))

    pub exchanged-alike : bytes_eq f.word g.word ≡ false → AreAlike one two
    exchanged-alike differ = record {
      given = set-alike;
      numbers = λ which. settings-exchanged before behind f g which v w differ;
      others = list_any-append (λ line. not (is_setting line)) before (Set f v ∷ Set g w ∷ behind)
          ∙ sym (list_any-append (λ line. not (is_setting line)) before (Set g w ∷ Set f v ∷ behind));
      names = names-alike;
      accesses = filter_map-append access_of before (Set f v ∷ Set g w ∷ behind)
          ∙ sym (filter_map-append access_of before (Set g w ∷ Set f v ∷ behind));
      sums = λ measure zero. sums-to measure zero f g v w ∙ sym (sums-to measure zero g f w v);
    }

  -- ---- in a script

  module _ (differ : bytes_eq f.word g.word ≡ false) (before : List PlacedLine) (around : List Block) (n m : ℕ) where
    abbrev pub ahead : List PlacedLine → List PlacedLine
    ahead behind = before ++ setting_at n around f v ∷ setting_at m around g w ∷ behind

    abbrev pub swapped : List PlacedLine → List PlacedLine
    swapped behind = before ++ setting_at n around g w ∷ setting_at m around f v ∷ behind

    pub all-alike : (behind : List PlacedLine) → AreAlike (lines_of (ahead behind)) (lines_of (swapped behind))
    all-alike behind =
        both-alike (lines-append before (setting_at n around f v ∷ setting_at m around g w ∷ behind))
        (lines-append before (setting_at n around g w ∷ setting_at m around f v ∷ behind))
        (exchanged-alike (lines_of before) (lines_of behind) differ)

    -- those of one block
    pub near-alike : (block : ℕ) (behind : List PlacedLine)
        → AreAlike (lines_of (filter (λ l. home l == block) (ahead behind)))
        (lines_of (filter (λ l. home l == block) (swapped behind)))
    near-alike block behind =
        both-alike
        (ap lines_of (filter-append near before (setting_at n around f v ∷ setting_at m around g w ∷ behind)))
        (ap lines_of (filter-append near before (setting_at n around g w ∷ setting_at m around f v ∷ behind)))
        (go (near (setting_at n around f v)))
      where
        near : PlacedLine → Bool
        near l = home l == block

        chosen : Bool → Setting → Word → Setting → Word → List PlacedLine
        chosen t a x b y =
            filter near before ++ cond t (setting_at n around a x ∷ cond t (setting_at m around b y ∷ filter near behind)
            (filter near behind)) (cond t (setting_at m around b y ∷ filter near behind) (filter near behind))

        go : (t : Bool) → AreAlike (lines_of (chosen t f v g w)) (lines_of (chosen t g w f v))
        go true =
            both-alike
            (lines-append (filter near before)
            (setting_at n around f v ∷ setting_at m around g w ∷ filter near behind))
            (lines-append (filter near before)
            (setting_at n around g w ∷ setting_at m around f v ∷ filter near behind))
            (exchanged-alike (lines_of (filter near before)) (lines_of (filter near behind)) differ)
        go false = same-lines _ _ refl

    -- a line behind both, and what stands between
    stands-alike : (between : List PlacedLine) (p : PlacedLine) (rest : List PlacedLine)
        → StandAlike (record { before = ahead between; here = p; behind = rest })
        (record { before = swapped between; here = p; behind = rest })
    stands-alike between p rest = record {
      line = refl;
      left = refl;
      scope = refl;
      depth = refl;
      openings = refl;
      repeated = refl;
      before = all-alike between;
      near = near-alike (home p) between;
      actions = refl;
      temporaries = ap named (append_assoc before
          (setting_at n around f v ∷ setting_at m around g w ∷ between) (p ∷ rest))
          ∙ (near-alike (home p) (between ++ p ∷ rest)).names temporary_name (λ s w. refl)
          ∙ sym (ap named (append_assoc before
          (setting_at n around g w ∷ setting_at m around f v ∷ between) (p ∷ rest)));
    }
      where
        named : List PlacedLine → List Word
        named ls = filter_map temporary_name (lines_of (filter (λ l. home l == home p) ls))

    pub behind-alike : (i : Interface) (racing : Bool) (between rest : List PlacedLine)
        → first_of (fault_at i racing) (standings_from (ahead between) rest)
        ≡ first_of (fault_at i racing) (standings_from (swapped between) rest)
    behind-alike i racing between [] = refl
    behind-alike i racing between (p ∷ rest) =
        let first = ap (option_map (fault_of p.number)) (same-broken i (here (ahead between)) (here (swapped between))
        (stands-alike between p rest) racing) in
        let more = ap (λ b. first_of fault (standings_from b rest)) (append_assoc before
        (setting_at n around f v ∷ setting_at m around g w ∷ between) (p ∷ []))
        ∙ behind-alike i racing (between ++ p ∷ []) rest
        ∙ sym (ap (λ b. first_of fault (standings_from b rest)) (append_assoc before
        (setting_at n around g w ∷ setting_at m around f v ∷ between) (p ∷ []))) in
        first_of-cons fault (here (ahead between)) (standings_from (ahead between ++ p ∷ []) rest)
        ∙ (λ j. or_else (first j) (more j))
        ∙ sym (first_of-cons fault (here (swapped between)) (standings_from (swapped between ++ p ∷ []) rest))
      where
        fault : Standing → Option Fault
        fault = fault_at i racing

        here : List PlacedLine → Standing
        here done = record { before = done; here = p; behind = rest }
