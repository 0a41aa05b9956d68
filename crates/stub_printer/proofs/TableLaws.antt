-- The lists that the tables of an interface have.
use Rattle.std.proofs.Common.{ℕ, zero, suc, ◌<◌, ◌≤◌, ◌≡◌, Bool, true, false, List, [], ◌∷◌, length, map, None, option_map, is_some, IsSome, slice_get, refl, subst, sym, arith}
use Rattle.edl_interface.specs.declared.Interface.{Interface}
use Rattle.bridge_program.specs.declared.bridges.Bridges.{Bridges}
use Rattle.bridge_program.specs.Tables.{bridges_of, list_of, ecall_bridge, ocall_bridge}
use Rattle.stub_printer.specs.Stubs.{side}

within : {A B C : Type 0} (f : A → B) (g : B → C) (xs : List A) (n : ℕ) → n < length xs → is_some (option_map g (slice_get (map f xs) n)) ≡ true
within f g [] n h = absurd (omega arith)
within f g (x ∷ xs) zero h = refl
within f g (x ∷ xs) (suc n) h = within f g xs n (omega arith)

past : {A B C : Type 0} (f : A → B) (g : B → C) (xs : List A) (n : ℕ) → length xs ≤ n → option_map g (slice_get (map f xs) n) ≡ None
past f g [] n h = refl
past f g (x ∷ xs) zero h = absurd (omega arith)
past f g (x ∷ xs) (suc n) h = past f g xs n (omega arith)

listed_in : (i : Interface) (t : Bool) (n : ℕ) → n < length (side i t) → IsSome (list_of (bridges_of i) t n)
listed_in i true n h = within ecall_bridge (λ b. b.list) i.ecalls n h
listed_in i false n h = within ocall_bridge (λ b. b.list) i.ocalls n h

unlisted_in : (i : Interface) (t : Bool) (n : ℕ) → length (side i t) ≤ n → list_of (bridges_of i) t n ≡ None
unlisted_in i true n h = past ecall_bridge (λ b. b.list) i.ecalls n h
unlisted_in i false n h = past ocall_bridge (λ b. b.list) i.ocalls n h

-- there is a list at each ordinal of the interface, and none past them
pub listed : (b : Bridges) (i : Interface) (t : Bool) (n : ℕ) → b ≡ bridges_of i → n < length (side i t) → IsSome (list_of b t n)
listed b i t n e h = subst (λ (b : Bridges). IsSome (list_of b t n)) (sym e) (listed_in i t n h)

pub unlisted : (b : Bridges) (i : Interface) (t : Bool) (n : ℕ) → b ≡ bridges_of i → length (side i t) ≤ n → list_of b t n ≡ None
unlisted b i t n e h = subst (λ (b : Bridges). list_of b t n ≡ None) (sym e) (unlisted_in i t n h)
