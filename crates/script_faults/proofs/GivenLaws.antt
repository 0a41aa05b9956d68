-- The settings that lines give, one line later.
use Rattle.std.proofs.Common.{ℕ, ◌≡◌, List, [], ◌∷◌, ◌++◌, Option, Some, None, refl, sym, ◌∙◌, ap}
use Rattle.std.specs.Prelude.{filter_map, slice_get, is_some, unwrap_or}
use Rattle.std.specs.List.{list_any}
use Rattle.call_script.specs.Settings as row
use Rattle.call_script.specs.Line.{Line}
use Rattle.call_script.specs.Standing.{set_to, setting_in}
use Rattle.script_faults.specs.declared.given.GivenSetting.{GivenSetting}
use Rattle.script_faults.specs.declared.given.GivenSettings.{GivenSettings}
use Rattle.script_faults.proofs.ListLaws.{filter_map-more, filter_map-same}
use Rattle.script_faults.specs.Given.{number_given, Gives, AreGiven}

-- whether an element gives something is whether there is a first that does
pub any_given : {A B : Type 0} (f : A → Option B) (xs : List A)
    → list_any (λ x. is_some (f x)) xs ≡ is_some (slice_get (filter_map f xs) 0)
any_given f [] = refl
any_given f (x ∷ xs) = go (f x) refl (any_given f xs)
  where
    go : (o : Option _) → f x ≡ o → list_any (λ y. is_some (f y)) xs ≡ is_some (slice_get (filter_map f xs) 0)
        → list_any (λ y. is_some (f y)) (x ∷ xs) ≡ is_some (slice_get (filter_map f (x ∷ xs)) 0)
    go None e rest = rw e rest
    go (Some b) e rest = rw e refl

module _ (which : row.Setting) (ls : List Line) (g : GivenSettings) where
  pub first_given : AreGiven ls g
      → slice_get (filter_map (set_to which) ls) 0 ≡ slice_get (filter_map (number_given which) g.given) 0
  unfolding AreGiven
  first_given h = ap (λ ns. slice_get ns 0) (h which)

  -- where this is the first number
  pub has_given : (o : Option ℕ) → o ≡ slice_get (filter_map (number_given which) g.given) 0 → AreGiven ls g
      → list_any (λ l. is_some (set_to which l)) ls ≡ is_some o
  has_given o e h = any_given (set_to which) ls ∙ ap is_some (first_given h ∙ sym e)

  pub number_is : (o : Option ℕ) → o ≡ slice_get (filter_map (number_given which) g.given) 0 → AreGiven ls g
      → setting_in ls which ≡ unwrap_or o which.default
  number_is o e h = ap (λ x. unwrap_or x which.default) (first_given h ∙ sym e)

pub passed_none : (ls : List Line) (l : Line) (g : GivenSettings) → Gives l None → AreGiven ls g
    → AreGiven (ls ++ l ∷ []) g
unfolding AreGiven
passed_none ls l g e h which = filter_map-same (set_to which) ls l (e which) ∙ h which

pub passed_some : (ls : List Line) (l : Line) (one : GivenSetting) (old new : GivenSettings) → Gives l (Some one)
    → new.given ≡ old.given ++ one ∷ [] → AreGiven ls old → AreGiven (ls ++ l ∷ []) new
unfolding AreGiven
passed_some ls l one old new e items h which =
    go (number_given which one) refl ∙ ap (filter_map (number_given which)) (sym items)
  where
    go : (o : Option ℕ) → number_given which one ≡ o
        → filter_map (set_to which) (ls ++ l ∷ []) ≡ filter_map (number_given which) (old.given ++ one ∷ [])
    go None k =
        filter_map-same (set_to which) ls l (e which ∙ k)
        ∙ h which
        ∙ sym (filter_map-same (number_given which) old.given one k)
    go (Some n) k =
        filter_map-more (set_to which) ls l n (e which ∙ k)
        ∙ ap (λ ns. ns ++ n ∷ []) (h which)
        ∙ sym (filter_map-more (number_given which) old.given one n k)

pub none_given : (g : GivenSettings) → g.given ≡ [] → AreGiven [] g
unfolding AreGiven
none_given g e which = ap (filter_map (number_given which)) (sym e)
