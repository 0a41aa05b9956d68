-- What a parser can read, told by what its parts can.
use Rattle.std.proofs.Common.{◌≡◌, List, [], ◌∷◌, ◌++◌, Option, Some, None, refl, ap, subst}
use Rattle.std.specs.Prelude.{unwrap_or, map}
use Rattle.std.specs.List.{AllByRecursion}
use Prim.Native.String.{String}
use Rattle.call_script.specs.Spelling.{Word}
use Rattle.call_script.specs.Parser.{Parser, and_then, ◌>>=◌, ◌<*>◌, ◌<*◌, pure, said, keyword, ended, or_else, first_to_read}

-- all that the parser reads is so
abbrev pub Gives : {A : Type 0} → (A → Type 0) → Parser A → Type 0
Gives {A} P p = (ws : List Word) (a : A) (rest : List Word) → p ws ≡ Some (a, rest) → P a

pair-of : {A : Type 0} (a b : A) (r s : List Word) → ◌≡◌ {A = Option (A × List Word)} (Some (a, r)) (Some (b, s))
    → a ≡ b
pair-of {A} a b r s e = ap (λ (o : Option (A × List Word)). (unwrap_or {T = A × List Word} o (a, r)).0) e

pub Gives-pure : {A : Type 0} (P : A → Type 0) (a : A) → P a → Gives P (pure a)
Gives-pure P a h ws b rest e = subst P (pair-of a b ws rest e) h

pub Gives-bind : {A B : Type 0} (P : A → Type 0) (Q : B → Type 0) (p : Parser A) (k : A → Parser B) → Gives P p
    → ((a : A) → P a → Gives Q (k a)) → Gives Q (p >>= k)
Gives-bind P Q p k h g ws b rest e = go (p ws) refl e
  where
    go : (o : Option _) → p ws ≡ o → and_then o k ≡ Some (b, rest) → Q b
    go None f e = absurd cc
    go (Some x) f e = g x.0 (h ws x.0 x.1 f) x.1 b rest e

pub Gives-<*> : {A B : Type 0} (P : B → Type 0) (Q : A → Type 0) (p : Parser (A → B)) (q : Parser A)
    → Gives (λ f. (a : A) → Q a → P (f a)) p → Gives Q q → Gives P (p <*> q)
Gives-<*> P Q p q h g = Gives-bind _ P p _ h (λ f k. Gives-bind Q P q _ g (λ a m. Gives-pure P (f a) (k a m)))

pub Gives-<* : {A B : Type 0} (P : A → Type 0) (p : Parser A) (q : Parser B) → Gives P p → Gives P (p <* q)
Gives-<* P p q h =
    Gives-bind P P p _ h (λ a k. Gives-bind (λ b. Unit {0}) P q _ (λ ws b rest e. tt) (λ b m. Gives-pure P a k))

pub Gives-keyword : {A : Type 0} (P : A → Type 0) (text : String) (a : A) → P a → Gives P (keyword text a)
Gives-keyword P text a h = Gives-bind (λ w. Unit {0}) P (said text) _ (λ ws w rest e. tt) (λ w k. Gives-pure P a h)

pub ended-is : {A : Type 0} (o : Option (A × List Word)) (a : A) → ended o ≡ Some a → (rest : List Word)
    × (o ≡ Some (a, rest))
ended-is None a e = absurd cc
ended-is (Some (b, [])) a e = ([], ap (λ x. Some (unwrap_or x b, [])) e)
ended-is (Some (b, w ∷ ws)) a e = absurd cc

-- what the first of some parsers reads is so, where it is for each
pub first_to_read-is : {A : Type 0} (P : A → Type 0) (ps : List (Parser A)) → AllByRecursion (Gives P) ps
    → (ws : List Word) (a : A) → first_to_read ps ws ≡ Some a → P a
first_to_read-is P [] h ws a e = absurd cc
first_to_read-is P (p ∷ ps) h ws a e = go (ended (p ws)) refl e (first_to_read-is P ps h.1 ws a)
  where
    go : (o : Option _) → ended (p ws) ≡ o → or_else o (first_to_read ps ws) ≡ Some a
        → (first_to_read ps ws ≡ Some a → P a) → P a
    go None f e rest = rest e
    go (Some b) f e rest =
        let found = ended-is (p ws) b f in subst P (ap (λ x. unwrap_or x b) e) (h.0 ws b found.0 found.1)

pub All-++ : {A : Type 0} (P : A → Type 0) (xs ys : List A) → AllByRecursion P xs → AllByRecursion P ys
    → AllByRecursion P (xs ++ ys)
All-++ P [] ys h g = g
All-++ P (x ∷ xs) ys h g = (h.0, All-++ P xs ys h.1 g)

pub All-left : {A : Type 0} (P : A → Type 0) (xs ys : List A) → AllByRecursion P (xs ++ ys) → AllByRecursion P xs
All-left P [] ys h = tt
All-left P (x ∷ xs) ys h = (h.0, All-left P xs ys h.1)

pub All-right : {A : Type 0} (P : A → Type 0) (xs ys : List A) → AllByRecursion P (xs ++ ys) → AllByRecursion P ys
All-right P [] ys h = h
All-right P (x ∷ xs) ys h = All-right P xs ys h.1

pub All-map : {A B : Type 0} (P : A → Type 0) (Q : B → Type 0) (f : A → B) (xs : List A) → ((a : A) → P a → Q (f a))
    → AllByRecursion P xs → AllByRecursion Q (map f xs)
All-map P Q f [] k h = tt
All-map P Q f (x ∷ xs) k h = (k x h.0, All-map P Q f xs k h.1)
