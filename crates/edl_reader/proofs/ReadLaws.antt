-- What the grammar keeps of each tree: types have tokens of their own, and integers have sizes.
use Rattle.std.proofs.Common.{arith, inl, inr, ◌≡◌, ◌≤◌, ◌<◌, ◌+◌, ◌⊎◌, ℕ, Bool, zero, suc, List, [], ◌∷◌, ◌++◌, length, length-append, refl, sym, ◌∙◌, ap, subst, Option, Some, None}
use Rattle.std.specs.Prelude.{map, All, Contains}
use Rattle.std.proofs.lemmas.List.{map-append}
use Rattle.std.proofs.lemmas.List.Elements.{All-nil, All-cons, All-append}
use Prim.Native.String.{String}
use Rattle.edl_lexer.specs.declared.Token.{Token}
use Rattle.edl_grammar.specs.declared.EdlFile.{EdlFile}
use Rattle.edl_grammar.specs.declared.NameAt.{NameAt}
use Rattle.edl_grammar.specs.declared.TypeDecl.{TypeDecl}
use Rattle.edl_grammar.specs.declared.FuncDecl.{FuncDecl}
use Rattle.edl_grammar.specs.declared.Declared.{Declared}
use Rattle.edl_grammar.specs.declared.Tag.{Tag}
use Rattle.edl_grammar.specs.declared.IncludePlace.{IncludePlace}
use Rattle.edl_grammar.specs.declared.Phrase.{Phrase}
use Rattle.edl_grammar.specs.Symbols.{Symbol, Lexed, symbols, symbols_from}
use Rattle.edl_grammar.specs.Production.{Production, Then}
use Rattle.edl_grammar.specs.Production as spell
use Rattle.edl_grammar.specs.Grammar.{both, all_of, function, enumeration_of, signed_base}
use Rattle.edl_grammar.specs.Grammar as grammar
use Rattle.edl_grammar.specs.Files.{token_of}
use Rattle.attr_rules.specs.ForRun.{HasSize, HasSizes, IsRead}

-- ---- what holds of each value that a production spells

record Each {A : Type 0} (P : Production A) (Q : A → Type 0) : Type 0 where
  of : (ss : List Lexed) (a : A) → P ss a → Q a

pure_each : {A : Type 0} {Q : A → Type 0} {a : A} → Q a → Each (spell.pure a) Q
pure_each {Q = Q} q = record { of = λ ss b d. subst Q (sym d.1) q }

-- by the value of the front
then_by : {A B : Type 0} {P : Production A} {F : A → Production B} {Q : A → Type 0} {R : B → Type 0} → Each P Q → ((a : A) → Q a → Each (F a) R) → Each (Then P F) R
then_by p f = record { of = λ ss b d. (f d.value (p.of d.front d.value d.first)).of d.back b d.rest }

-- whatever the front is
then_each : {A B : Type 0} {P : Production A} {F : A → Production B} {R : B → Type 0} → ((a : A) → Each (F a) R) → Each (Then P F) R
then_each f = record { of = λ ss b d. (f d.value).of d.back b d.rest }

either_each : {A : Type 0} {P Q : Production A} {R : A → Type 0} → Each P R → Each Q R → Each (spell.◌<|>◌ P Q) R
either_each {A} {P} {Q} {R} p q = record { of = go }
  where
    go : (ss : List Lexed) (a : A) → P ss a ⊎ Q ss a → R a
    go ss a (inl d) = p.of ss a d
    go ss a (inr d) = q.of ss a d

many_each : {A : Type 0} {P : Production A} {Q : A → Type 0} (R : List A → Type 0) → R [] → ((a : A) (as' : List A) → Q a → R as' → R (a ∷ as')) → Each P Q → Each (spell.many P) R
many_each {A} {P} R none more p = record { of = go }
  where
    go : (ss : List Lexed) (as' : List A) → spell.many P ss as' → R as'
    go ss [] d = none
    go ss (a ∷ as') d = more a as' (p.of d.0 a d.3) (go d.1 as' d.4)

separated_each : {A : Type 0} {P : Production A} {Q : A → Type 0} → Each P Q → Each (spell.separated P) (All Q)
separated_each {Q = Q} p = then_by p (λ a q. then_by (many_each (All Q) (All-nil Q) (All-cons Q) (then_each (λ _. p))) (λ as' qs. pure_each (All-cons Q a as' q qs)))

-- ---- sizes

int_sized : Each grammar.int (λ i. 0 < i.0)
int_sized =
    either_each (then_each (λ _. pure_each (omega arith))) (either_each (then_each (λ _. pure_each (omega arith)))
    (either_each (then_each (λ _. pure_each (omega arith))) (then_each (λ _. pure_each (omega arith)))))

signed_int_sized : Each grammar.signed_int (λ b. HasSize b.0)
signed_int_sized = then_each (λ s. then_by {Q = λ i. HasSize (signed_base s i).0} (record { of = sized s }) (λ i h. pure_each h))
  where
    sized : (s : Bool × Phrase) (ss : List Lexed) (i : Option (ℕ × Phrase)) → spell.optional grammar.int ss i → HasSize (signed_base s i).0
    sized s ss None d = omega arith
    sized s ss (Some i) d = int_sized.of ss i d

base_sized : Each grammar.base_type (λ b. HasSize b.0)
base_sized =
    either_each (then_each (λ _. pure_each tt)) (either_each (then_each (λ _. pure_each tt)) (either_each (then_each (λ _. pure_each tt))
    (either_each (then_by int_sized (λ i h. pure_each h)) (either_each signed_int_sized
    (either_each (tagged "struct" _) (either_each (tagged "enum" _) (either_each (tagged "union" _) (then_each (λ _. pure_each tt)))))))))
  where
    tagged : (spelling : String) (t : Tag) → Each (grammar.tagged spelling t) (λ b. HasSize b.0)
    tagged spelling t = then_each (λ _. then_each (λ _. pure_each tt))

written_sized : Each grammar.written (λ w. HasSize w.base)
written_sized = then_each (λ _. then_by base_sized (λ b h. then_each (λ _. then_each (λ _. pure_each h))))

abbrev IsSized : Declared → Type 0
IsSized p = HasSize p.written.base

param_sized : Each grammar.param IsSized
param_sized = then_each (λ _. then_by written_sized (λ w h. then_each (λ _. then_each (λ _. pure_each h))))

params_sized : Each grammar.params (All IsSized)
params_sized = either_each (then_each (λ _. pure_each (All-nil IsSized))) (separated_each param_sized)

func_sized : Each grammar.func (λ f. HasSize f.result.base × All IsSized f.params)
func_sized = then_by written_sized (λ w h. then_each (λ _. then_each (λ _. then_by params_sized (λ ps hs. then_each (λ _. pure_each (h, hs))))))

abbrev AreSized : EdlFile → Type 0
AreSized f = All HasSizes f.trusted × All HasSizes f.untrusted

no_functions : All HasSizes []
no_functions = All-nil HasSizes

one_function : (f : FuncDecl) → HasSize f.result.base × All IsSized f.params → All HasSizes (f ∷ [])
one_function f h = All-cons HasSizes f [] (record { result = h.0; params = h.1 }) no_functions

block_sized : (spelling : String) {item : Production EdlFile} → Each item AreSized → Each (grammar.block spelling item) AreSized
block_sized spelling h = then_each (λ _. then_each (λ _. then_by (many_each (λ fs. AreSized (all_of fs)) (no_functions, no_functions) more h) (λ fs s. then_each (λ _. then_each (λ _. pure_each s)))))
  where
    more : (f : EdlFile) (fs : List EdlFile) → AreSized f → AreSized (all_of fs) → AreSized (both f (all_of fs))
    more f fs a b = (All-append HasSizes f.trusted (all_of fs).trusted a.0 b.0, All-append HasSizes f.untrusted (all_of fs).untrusted a.1 b.1)

include_sized : (at : IncludePlace) → Each (grammar.include at) AreSized
include_sized at = then_each (λ _. then_each (λ _. pure_each (no_functions, no_functions)))

type_sized : {P : Production TypeDecl} → Each (grammar.type_item P) AreSized
type_sized = then_each (λ _. pure_each (no_functions, no_functions))

trusted_sized : Each grammar.trusted_item AreSized
trusted_sized = either_each (include_sized _)
    (then_each (λ is_public. then_by func_sized (λ head h. then_each (λ marked. then_each (λ _. pure_each (one_function (function head is_public (record { allow = None; switchless = marked })) h, no_functions))))))

untrusted_sized : Each grammar.untrusted_item AreSized
untrusted_sized = either_each (include_sized _)
    (then_each (λ _. then_by func_sized (λ head h. then_each (λ t. then_each (λ _. pure_each (no_functions, one_function (function head _ t) h))))))

item_sized : Each grammar.item AreSized
item_sized =
    either_each (include_sized _) (either_each (then_each (λ _. then_each (λ _. then_each (λ _. then_each (λ _. then_each (λ _. pure_each (no_functions, no_functions)))))))
    (either_each type_sized (either_each type_sized (either_each type_sized (either_each (block_sized "trusted" trusted_sized) (block_sized "untrusted" untrusted_sized))))))

file_sized : Each grammar.file AreSized
file_sized = block_sized "enclave" item_sized

-- ---- numbers that rise within bounds

abbrev Rising : ℕ → List ℕ → ℕ → Type 0
Rising n [] m = n ≤ m
Rising n (k ∷ ks) m = (n ≤ k) × Rising (suc k) ks m

wider : (n n' m m' : ℕ) (ks : List ℕ) → n ≤ n' → m' ≤ m → Rising n' ks m' → Rising n ks m
wider n n' m m' [] l l' r = omega arith
wider n n' m m' (k ∷ ks) l l' r = (omega arith, wider (suc k) (suc k) m m' ks (omega arith) l' r.1)

joined : (n m r : ℕ) (ks ls : List ℕ) → Rising n ks m → Rising m ls r → Rising n (ks ++ ls) r
joined n m r [] ls a b = wider n m r r ls a (omega arith) b
joined n m r (k ∷ ks) ls a b = (a.0, joined (suc k) m r ks ls a.1 b)

-- ---- the tokens of symbols

-- they are numbered from n on
abbrev Numbered : ℕ → List Lexed → Type 0
Numbered n [] = Unit {0}
Numbered n (s ∷ ss) = (s.token ≡ n) × Numbered (suc n) ss

numbered_from : (n : ℕ) (bytes : List ℕ) (tokens : List Token) → Numbered n (symbols_from n bytes tokens)
numbered_from n bytes [] = tt
numbered_from n bytes (t ∷ ts) = (refl, numbered_from (suc n) bytes ts)

front_of : (n : ℕ) (front back : List Lexed) → Numbered n (front ++ back) → Numbered n front
front_of n [] back h = tt
front_of n (s ∷ ss) back h = (h.0, front_of (suc n) ss back h.1)

back_of : (n : ℕ) (front back : List Lexed) → Numbered n (front ++ back) → Numbered (n + length front) back
back_of n [] back h = let e : n ≡ n + 0 = omega arith in subst (λ k. Numbered k back) e h
back_of n (s ∷ ss) back h = let e : suc n + length ss ≡ n + suc (length ss) = omega arith in subst (λ k. Numbered k back) e (back_of (suc n) ss back h.1)

-- ---- productions whose values have numbers that rise among the tokens that spell them

record Rises {A : Type 0} (P : Production A) (f : A → List ℕ) : Type 0 where
  of : (n : ℕ) (ss : List Lexed) (a : A) → Numbered n ss → P ss a → Rising n (f a) (n + length ss)

symbol_rises : (n : ℕ) (ss : List Lexed) (k : ℕ) (s : Symbol) → Numbered n ss → ss ≡ record { token = k; symbol = s } ∷ [] → Rising n (k ∷ []) (n + length ss)
symbol_rises n ss k s h e =
    let at : (k ≡ n) × Unit {0} = subst (Numbered n) e h in
    let one : length ss ≡ 1 = ap length e in
    (omega arith, omega arith)

name_rises : Rises spell.name (λ x. x.token ∷ [])
name_rises = record { of = λ n ss x h d. symbol_rises n ss x.token _ h d.0 }

none_rises : {A : Type 0} {P : Production A} {f : A → List ℕ} → Each P (λ a. f a ≡ []) → Rises P f
none_rises none = record { of = λ n ss a h d. subst (λ ks. Rising n ks (n + length ss)) (sym (none.of ss a d)) (omega arith) }

either_rises : {A : Type 0} {P Q : Production A} {f : A → List ℕ} → Rises P f → Rises Q f → Rises (spell.◌<|>◌ P Q) f
either_rises {A} {P} {Q} {f} p q = record { of = go }
  where
    go : (n : ℕ) (ss : List Lexed) (a : A) → Numbered n ss → P ss a ⊎ Q ss a → Rising n (f a) (n + length ss)
    go n ss a h (inl d) = p.of n ss a h d
    go n ss a h (inr d) = q.of n ss a h d

module _ {A B : Type 0} {P : Production A} {F : A → Production B} where
  long : {ss : List Lexed} {b : B} (d : Then P F ss b) → length ss ≡ length d.front + length d.back
  long d = ap length d.split ∙ length-append d.front d.back

  -- the numbers of the front
  front_rises : {f : A → List ℕ} {g : B → List ℕ} → Rises P f → ((a : A) → Each (F a) (λ b. g b ≡ f a)) → Rises (Then P F) g
  front_rises {f} {g} p same = record { of = go }
    where
      go : (n : ℕ) (ss : List Lexed) (b : B) → Numbered n ss → Then P F ss b → Rising n (g b) (n + length ss)
      go n ss b h d =
          let l = long d in
          subst (λ ks. Rising n ks (n + length ss)) (sym ((same d.value).of d.back b d.rest))
          (wider n n (n + length ss) (n + length d.front) (f d.value) (omega arith) (omega arith) (p.of n d.front d.value (front_of n d.front d.back (subst (Numbered n) d.split h)) d.first))

  -- the numbers of the back
  back_rises : {g : B → List ℕ} → ((a : A) → Rises (F a) g) → Rises (Then P F) g
  back_rises {g} q = record { of = go }
    where
      go : (n : ℕ) (ss : List Lexed) (b : B) → Numbered n ss → Then P F ss b → Rising n (g b) (n + length ss)
      go n ss b h d =
          let l = long d in
          wider n (n + length d.front) (n + length ss) ((n + length d.front) + length d.back) (g b) (omega arith) (omega arith)
          ((q d.value).of (n + length d.front) d.back b (back_of n d.front d.back (subst (Numbered n) d.split h)) d.rest)

-- ---- the tokens of types

abbrev tokens_in : EdlFile → List ℕ
tokens_in f = map token_of f.types

abbrev token_in : TypeDecl → List ℕ
token_in t = token_of t ∷ []

named_rises : (spelling : String) {F : NameAt → Production TypeDecl} → ((n : NameAt) → Each (F n) (λ t. token_in t ≡ n.token ∷ [])) → Rises (Then (spell.word spelling) (λ _. Then spell.name F)) token_in
named_rises spelling same = back_rises (λ _. front_rises name_rises same)

structure_rises : Rises grammar.structure token_in
structure_rises = named_rises "struct" (λ n. then_each (λ _. pure_each refl))

union_rises : Rises grammar.union token_in
union_rises = named_rises "union" (λ n. then_each (λ _. pure_each refl))

-- an enumeration has the token of its name, or of its keyword
enumeration_rises : Rises grammar.enumeration token_in
enumeration_rises = record { of = go }
  where
    go : (n : ℕ) (ss : List Lexed) (t : TypeDecl) → Numbered n ss → grammar.enumeration ss t → Rising n (token_in t) (n + length ss)
    go n ss t h d = by d.rest.value d.rest.first d.rest.rest.rest.rest.rest.rest.1
      where
        behind : Numbered (n + length d.front) d.back
        behind = back_of n d.front d.back (subst (Numbered n) d.split h)

        keyword : Rising n (d.value ∷ []) (n + length d.front)
        keyword = symbol_rises n d.front d.value _ (front_of n d.front d.back (subst (Numbered n) d.split h)) d.first

        by : (o : Option NameAt) → spell.optional spell.name d.rest.front o → t ≡ enumeration_of d.value o d.rest.rest.rest.value → Rising n (token_in t) (n + length ss)
        by None f e = let l = long d in let k = keyword in subst (λ t. Rising n (token_in t) (n + length ss)) (sym e) (omega arith, omega arith)
        by (Some x) f e =
            let l = long d in let l' = long d.rest in
            let r = name_rises.of (n + length d.front) d.rest.front x (front_of (n + length d.front) d.rest.front d.rest.back (subst (Numbered (n + length d.front)) d.rest.split behind)) f in
            subst (λ t. Rising n (token_in t) (n + length ss)) (sym e) (omega arith, omega arith)

type_rises : {P : Production TypeDecl} → Rises P token_in → Rises (grammar.type_item P) tokens_in
type_rises p = front_rises p (λ t. pure_each refl)

many_rises : {item : Production EdlFile} → Rises item tokens_in → Rises (spell.many item) (λ fs. tokens_in (all_of fs))
many_rises {item} h = record { of = go }
  where
    go : (n : ℕ) (ss : List Lexed) (fs : List EdlFile) → Numbered n ss → spell.many item ss fs → Rising n (tokens_in (all_of fs)) (n + length ss)
    go n ss [] k d = omega arith
    go n ss (f ∷ fs) k d =
        let numbered = subst (Numbered n) d.2 k in
        let l : (n + length d.0) + length d.1 ≡ n + length ss = omega (arith, ap length d.2 ∙ length-append d.0 d.1) in
        subst (λ ks. Rising n ks (n + length ss)) (sym (map-append token_of f.types (all_of fs).types))
        (joined n (n + length d.0) (n + length ss) (tokens_in f) (tokens_in (all_of fs)) (h.of n d.0 f (front_of n d.0 d.1 numbered) d.3)
        (subst (λ m. Rising (n + length d.0) (tokens_in (all_of fs)) m) l (go (n + length d.0) d.1 fs (back_of n d.0 d.1 numbered) d.4)))

block_rises : (spelling : String) {item : Production EdlFile} → Rises item tokens_in → Rises (grammar.block spelling item) tokens_in
block_rises spelling h = back_rises (λ _. back_rises (λ _. front_rises (many_rises h) (λ fs. then_each (λ _. then_each (λ _. pure_each refl)))))

trusted_rises : Rises grammar.trusted_item tokens_in
trusted_rises = none_rises (either_each (then_each (λ _. then_each (λ _. pure_each refl))) (then_each (λ _. then_each (λ _. then_each (λ _. then_each (λ _. pure_each refl))))))

untrusted_rises : Rises grammar.untrusted_item tokens_in
untrusted_rises = none_rises (either_each (then_each (λ _. then_each (λ _. pure_each refl))) (then_each (λ _. then_each (λ _. then_each (λ _. then_each (λ _. pure_each refl))))))

item_rises : Rises grammar.item tokens_in
item_rises =
    either_rises (none_rises (then_each (λ _. then_each (λ _. pure_each refl))))
    (either_rises (none_rises (then_each (λ _. then_each (λ _. then_each (λ _. then_each (λ _. then_each (λ _. pure_each refl)))))))
    (either_rises (type_rises enumeration_rises) (either_rises (type_rises structure_rises) (either_rises (type_rises union_rises)
    (either_rises (block_rises "trusted" trusted_rises) (block_rises "untrusted" untrusted_rises))))))

file_rises : Rises grammar.file tokens_in
file_rises = block_rises "enclave" item_rises

-- ---- types told apart by their tokens

parts : {X : Type 0} (x y : X) (xs : List X) → Contains (x ∷ xs) y → (x ≡ y) ⊎ Contains xs y
parts x y xs (zero, lt, is) = inl is
parts x y xs (suc k, lt, is) = inr (k, omega arith, is)

not_below : (n m : ℕ) (ts : List TypeDecl) (t : TypeDecl) → Rising n (map token_of ts) m → Contains ts t → n ≤ token_of t
not_below n m [] t r (k, lt, is) = absurd (omega arith)
not_below n m (x ∷ xs) t r there = by (parts x t xs there) (not_below (suc (token_of x)) m xs t r.1)
  where
    by : (x ≡ t) ⊎ Contains xs t → (Contains xs t → suc (token_of x) ≤ token_of t) → n ≤ token_of t
    by (inl e) behind = subst (λ z. n ≤ token_of z) e r.0
    by (inr i) behind = let l = behind i in let l' = r.0 in omega arith

told_apart : (n m : ℕ) (ts : List TypeDecl) → Rising n (map token_of ts) m → (a b : TypeDecl) → Contains ts a → Contains ts b → token_of a ≡ token_of b → a ≡ b
told_apart n m [] r a b (k, lt, is) j e = absurd (omega arith)
told_apart n m (x ∷ xs) r a b i j e = by (parts x a xs i) (parts x b xs j) (λ s t. told_apart (suc (token_of x)) m xs r.1 a b s t e)
  where
    later : (y z : TypeDecl) → x ≡ y → Contains xs z → token_of y ≡ token_of z → ⊥
    later y z s there same = let l = not_below (suc (token_of x)) m xs z r.1 there in let f = ap token_of s in omega arith

    by : (x ≡ a) ⊎ Contains xs a → (x ≡ b) ⊎ Contains xs b → (Contains xs a → Contains xs b → a ≡ b) → a ≡ b
    by (inl s) (inl t) behind = sym s ∙ t
    by (inl s) (inr t) behind = absurd (later a b s t e)
    by (inr s) (inl t) behind = absurd (later b a t s (sym e))
    by (inr s) (inr t) behind = behind s t

-- ---- the law

pub read_tree : (bytes : List ℕ) (tokens : List Token) (tree : EdlFile) → grammar.file (symbols bytes tokens) tree → IsRead tree
read_tree bytes tokens tree d =
    let sized = file_sized.of (symbols bytes tokens) tree d in
    record {
      types = told_apart 0 (0 + length (symbols bytes tokens)) tree.types (file_rises.of 0 (symbols bytes tokens) tree (numbered_from 0 bytes tokens) d);
      trusted = sized.0;
      untrusted = sized.1;
    }
