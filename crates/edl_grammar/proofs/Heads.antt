-- How the sentences of a production begin, and what may not stand there.
use Rattle.std.proofs.Common.{◌≡◌, ℕ, zero, suc, Bool, true, false, ◌⊎◌, inl, inr, List, [], ◌∷◌, ◌++◌, append_assoc, refl, subst, Option, Some, None}
use Rattle.std.specs.Prelude.{codes, slice_get, slice_index, ◌||◌}
use Rattle.std.specs.List.{list_any}
use Rattle.std.specs.Str.{bytes_eq}
use Prim.Native.String.{String}
use Rattle.edl_grammar.specs.Symbols.{Symbol, Word, Number, Mark, Lexed, is_reserved, reserved}
use Rattle.edl_grammar.specs.Production.{Production, Then}
use Rattle.edl_grammar.specs.Production as spell
use Rattle.edl_grammar.specs.Parser.{sees, is_word, is_name}
use Rattle.edl_grammar.proofs.Agrees.{Begins, Ends}

-- no sentence begins with a symbol that passes the test
abbrev pub Skips : {A : Type 0} → Production A → (Symbol → Bool) → Type 0
Skips {A} P test = (front rest : List Lexed) (a : A) → P front a → sees test (front ++ rest) ≡ false

pub then_begins : {A B : Type 0} {P : Production A} {F : A → Production B} (test : Symbol → Bool) → Begins P test → Begins (Then P F) test
then_begins test begins front rest b d = rw (d.split, append_assoc d.front d.back rest) (begins d.front (d.back ++ rest) d.value d.first)

pub then_skips : {A B : Type 0} {P : Production A} {F : A → Production B} (test : Symbol → Bool) → Skips P test → Skips (Then P F) test
then_skips test skips front rest b d = rw (d.split, append_assoc d.front d.back rest) (skips d.front (d.back ++ rest) d.value d.first)

pub either_skips : {A : Type 0} {P Q : Production A} (test : Symbol → Bool) → Skips P test → Skips Q test → Skips (spell.◌<|>◌ P Q) test
either_skips test h k front rest a (inl d) = h front rest a d
either_skips test h k front rest a (inr d) = k front rest a d

pub either_begins : {A : Type 0} {P Q : Production A} (test : Symbol → Bool) → Begins P test → Begins Q test → Begins (spell.◌<|>◌ P Q) test
either_begins test h k front rest a (inl d) = h front rest a d
either_begins test h k front rest a (inr d) = k front rest a d

-- ---- words

pub word_begins : (spelling : String) (test : Symbol → Bool) → test (Word (codes spelling)) ≡ true → Begins (spell.word spelling) test
word_begins spelling test t front rest n e = rw e t

pub word_skips : (spelling : String) (test : Symbol → Bool) → test (Word (codes spelling)) ≡ false → Skips (spell.word spelling) test
word_skips spelling test t front rest n e = rw e t

pub mark_begins : (spelling : String) (test : Symbol → Bool) → test (Mark (slice_index (codes spelling) 0)) ≡ true → Begins (spell.mark spelling) test
mark_begins spelling test t front rest n e = rw e t

pub mark_skips : (spelling : String) (test : Symbol → Bool) → test (Mark (slice_index (codes spelling) 0)) ≡ false → Skips (spell.mark spelling) test
mark_skips spelling test t front rest n e = rw e t

pub number_begins : (test : Symbol → Bool) → ((n : ℕ) → test (Number n) ≡ true) → Begins spell.number test
number_begins test t front rest n d = rw d.1 (t n)

pub name_begins : (test : Symbol → Bool) → ((w : List ℕ) → is_reserved w ≡ false → test (Word w) ≡ true) → Begins spell.name test
name_begins test t front rest x d = rw d.0 (t x.name d.1)

pub name_skips : (test : Symbol → Bool) → ((w : List ℕ) → is_reserved w ≡ false → test (Word w) ≡ false) → Skips spell.name test
name_skips test t front rest x d = rw d.0 (t x.name d.1)

-- ---- reserved words are no names

or_false : (a b : Bool) → a || b ≡ false → (a ≡ false) × (b ≡ false)
or_false true b e = absurd cc
or_false false b e = (refl, e)

any_false : (f : List ℕ → Bool) (xs : List (List ℕ)) (k : ℕ) (x : List ℕ) → slice_get xs k ≡ Some x → list_any f xs ≡ false → f x ≡ false
any_false f [] k x at e = absurd cc
any_false f (y ∷ ys) zero x at e = let same : y ≡ x = cc in subst (λ z. f z ≡ false) same (or_false (f y) (list_any f ys) e).0
any_false f (y ∷ ys) (suc k) x at e = any_false f ys k x at (or_false (f y) (list_any f ys) e).1

-- the k-th reserved word is no name
pub not_name : (spelling : String) (k : ℕ) → slice_get reserved k ≡ Some (codes spelling) → (w : List ℕ) → is_reserved w ≡ false → is_word spelling (Word w) ≡ false
not_name spelling k at w e = any_false (bytes_eq w) reserved k (codes spelling) at e

pub or_cases : (a b : Bool) → a || b ≡ true → (a ≡ true) ⊎ (b ≡ true)
or_cases true b e = inl refl
or_cases false b e = inr e

pub or_left : (a b : Bool) → a ≡ true → a || b ≡ true
or_left a b e = rw e refl

-- a name where it may stand
pub is_name_true : (w : List ℕ) → is_reserved w ≡ false → is_name (Word w) ≡ true
is_name_true w e = rw e refl

-- ---- what may stand behind something that ends so

-- what it spells leads on from such an end
abbrev pub Leads : {A : Type 0} → Production A → Ends → Type 0
Leads {A} P ends = (front rest : List Lexed) (a : A) → P front a → ends (front ++ rest) ≡ true

-- what it spells, before one end, stands behind the other
abbrev pub Keeps : {A : Type 0} → Production A → Ends → Ends → Type 0
Keeps {A} P ends ends' = (back rest : List Lexed) (a : A) → P back a → ends' rest ≡ true → ends (back ++ rest) ≡ true

pub leads_keeps : {A : Type 0} {P : Production A} (ends ends' : Ends) → Leads P ends → Keeps P ends ends'
leads_keeps ends ends' h back rest a d e = h back rest a d

pub keeps_pure : {A : Type 0} (a : A) (ends ends' : Ends) → ((rest : List Lexed) → ends' rest ≡ true → ends rest ≡ true) → Keeps (spell.pure a) ends ends'
keeps_pure a ends ends' to back rest b d e = rw d.0 (to rest e)

pub then_leads : {A B : Type 0} {P : Production A} {F : A → Production B} (ends : Ends) → Leads P ends → Leads (Then P F) ends
then_leads ends h front rest b d = rw (d.split, append_assoc d.front d.back rest) (h d.front (d.back ++ rest) d.value d.first)

pub word_leads : (spelling : String) (ends : Ends) → ((n : ℕ) (rest : List Lexed) → ends (record { token = n; symbol = Word (codes spelling) } ∷ rest) ≡ true) → Leads (spell.word spelling) ends
word_leads spelling ends t front rest n e = rw e (t n rest)

pub mark_leads : (spelling : String) (ends : Ends) → ((n : ℕ) (rest : List Lexed) → ends (record { token = n; symbol = Mark (slice_index (codes spelling) 0) } ∷ rest) ≡ true) → Leads (spell.mark spelling) ends
mark_leads spelling ends t front rest n e = rw e (t n rest)

pub name_leads : (ends : Ends) → ((n : ℕ) (w : List ℕ) (rest : List Lexed) → is_reserved w ≡ false → ends (record { token = n; symbol = Word w } ∷ rest) ≡ true) → Leads spell.name ends
name_leads ends t front rest x d = rw d.0 (t x.token x.name rest d.1)

pub either_leads : {A : Type 0} {P Q : Production A} (ends : Ends) → Leads P ends → Leads Q ends → Leads (spell.◌<|>◌ P Q) ends
either_leads ends h k front rest a (inl d) = h front rest a d
either_leads ends h k front rest a (inr d) = k front rest a d

module _ {A B : Type 0} {P : Production A} (ends ends' : Ends) (h : Leads P ends) where
  pub optional_keeps : {F : Option A → Production B} → ((o : Option A) → Keeps (F o) ends ends') → Keeps (Then (spell.optional P) F) ends ends'
  optional_keeps k back rest b d e = rw (d.split, append_assoc d.front d.back rest) (go d.value d.first (k d.value d.back rest b d.rest e))
    where
      go : (o : Option A) → spell.optional P d.front o → ends (d.back ++ rest) ≡ true → ends (d.front ++ (d.back ++ rest)) ≡ true
      go None f g = rw f g
      go (Some a) f g = h d.front (d.back ++ rest) a f

  pub given_keeps : {F : Bool → Production B} → ((o : Bool) → Keeps (F o) ends ends') → Keeps (Then (spell.given P) F) ends ends'
  given_keeps k back rest b d e = rw (d.split, append_assoc d.front d.back rest) (go d.value d.first (k d.value d.back rest b d.rest e))
    where
      go : (o : Bool) → spell.given P d.front o → ends (d.back ++ rest) ≡ true → ends (d.front ++ (d.back ++ rest)) ≡ true
      go false f g = rw f g
      go true f g = h d.front (d.back ++ rest) f.0 f.1

  pub many_keeps : {F : List A → Production B} → ((o : List A) → Keeps (F o) ends ends') → Keeps (Then (spell.many P) F) ends ends'
  many_keeps k back rest b d e = rw (d.split, append_assoc d.front d.back rest) (go d.value d.first (k d.value d.back rest b d.rest e))
    where
      go : (o : List A) → spell.many P d.front o → ends (d.back ++ rest) ≡ true → ends (d.front ++ (d.back ++ rest)) ≡ true
      go [] f g = rw f g
      go (a ∷ as') f g = rw (f.2, append_assoc f.0 f.1 (d.back ++ rest)) (h f.0 (f.1 ++ (d.back ++ rest)) a f.3)

pub optional_leads : {A B : Type 0} {P : Production A} {F : Option A → Production B} (ends : Ends) → Leads P ends → ((o : Option A) → Leads (F o) ends) → Leads (Then (spell.optional P) F) ends
optional_leads {P = P} ends h k front rest b d = rw (d.split, append_assoc d.front d.back rest) (go d.value d.first (k d.value d.back rest b d.rest))
  where
    go : (o : Option _) → spell.optional P d.front o → ends (d.back ++ rest) ≡ true → ends (d.front ++ (d.back ++ rest)) ≡ true
    go None f g = rw f g
    go (Some a) f g = h d.front (d.back ++ rest) a f

pub given_leads : {A B : Type 0} {P : Production A} {F : Bool → Production B} (ends : Ends) → Leads P ends → ((o : Bool) → Leads (F o) ends) → Leads (Then (spell.given P) F) ends
given_leads {P = P} ends h k front rest b d = rw (d.split, append_assoc d.front d.back rest) (go d.value d.first (k d.value d.back rest b d.rest))
  where
    go : (o : Bool) → spell.given P d.front o → ends (d.back ++ rest) ≡ true → ends (d.front ++ (d.back ++ rest)) ≡ true
    go false f g = rw f g
    go true f g = h d.front (d.back ++ rest) f.0 f.1

pub or_right : (a b : Bool) → b ≡ true → a || b ≡ true
or_right true b e = refl
or_right false b e = e
