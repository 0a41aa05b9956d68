-- The lists of bridges, a part at a time, and what they print.
use Rattle.std.proofs.Common.{ℕ, zero, suc, ◌+◌, ◌≡◌, Bool, true, false, List, [], ◌∷◌, ◌++◌, Some, refl, ap, sym, ◌∙◌, append_assoc, arith}
use Rattle.std.specs.Prelude.{if◌then◌else◌, map, option_map, unwrap_or, slice_get}
use Rattle.std.specs.List.{list_any}
use Rattle.edl_grammar.specs.declared.FuncDecl.{FuncDecl}
use Rattle.edl_interface.specs.declared.Param.{Param}
use Rattle.edl_interface.specs.declared.Class.{Class}
use Rattle.edl_interface.specs.declared.Function.{Function}
use Rattle.edl_interface.specs.declared.Interface.{Interface}
use Rattle.edl_interface.specs.Parameters.{is_marshalled, is_in, is_text}
use Rattle.bridge_program.specs.declared.Instr.{Instr}
use Rattle.bridge_program.specs.declared.Instr.TheVariants.{Divide, Alloc, CopyIn, Zero, TextEnd}
use Rattle.bridge_program.specs.Lists.{each_from, where_is, once, entry_of, ecall_list}
use Rattle.bridge_program.specs.Tables.{bridges_of, ecall_bridge}
use Rattle.stub_printer.specs.Stubs.{listed_text}
use Rattle.bridge_text.specs.Bridges.{instr_text, list_text}
use Rattle.stub_laws.specs.Laws.{Stands}
use Rattle.std.proofs.lemmas.List.Folds.{list_any-append}
use Rattle.stub_laws.proofs.WordLaws.{neither, first_not, second_not}
use Rattle.stub_laws.proofs.TemplateLaws.{IsSilent, silent_none, silent_both}

-- ---- texts of lists

pub text_append : (f : FuncDecl) (o : ℕ) (a b : List Instr) → list_text f o (a ++ b) ≡ list_text f o a ++ list_text f o b
text_append f o [] b = refl
text_append f o (i ∷ a) b = ap (λ l. instr_text f o i ++ l) (text_append f o a b) ∙ sym (append_assoc (instr_text f o i) (list_text f o a) (list_text f o b))

pub silent_list : (w : List ℕ) (f : FuncDecl) (o : ℕ) (test : Instr → Bool) (list : List Instr)
    → ((i : Instr) → test i ≡ false → IsSilent w (instr_text f o i)) → list_any test list ≡ false → IsSilent w (list_text f o list)
silent_list w f o test [] s h = silent_none w
silent_list w f o test (i ∷ list) s h =
    silent_both w (instr_text f o i) (list_text f o list)
    (s i (first_not (test i) (list_any test list) h)) (silent_list w f o test list s (second_not (test i) (list_any test list) h))

-- ---- instructions of parameters

pub none_both : (test : Instr → Bool) (a b : List Instr) → list_any test a ≡ false → list_any test b ≡ false → list_any test (a ++ b) ≡ false
none_both test a b h k = list_any-append test a b ∙ neither (list_any test a) (list_any test b) h k

-- none of the instructions of each parameter passes a test
pub none_from : (test : Instr → Bool) (instrs : ℕ → Param → List Instr) (n : ℕ) (ps : List Param)
    → ((n : ℕ) (p : Param) → list_any test (instrs n p) ≡ false) → list_any test (each_from n instrs ps) ≡ false
none_from test instrs n [] h = refl
none_from test instrs n (p ∷ ps) h = none_both test (instrs n p) (each_from (suc n) instrs ps) (h n p) (none_from test instrs (suc n) ps h)

pub none_if : (test : Instr → Bool) (t : Bool) (i : Instr) → test i ≡ false → list_any test (if t then i ∷ [] else []) ≡ false
none_if test true i h = neither (test i) false h refl
none_if test false i h = refl

pub none_where : (test : Instr → Bool) (is : Class → Bool) (instr : ℕ → Instr) (function : Function)
    → ((n : ℕ) → test (instr n) ≡ false) → list_any test (where_is is instr function) ≡ false
none_where test is instr function h =
    none_from test (λ n p. if is p.class then instr n ∷ [] else []) 0 function.params (λ n p. none_if test (is p.class) (instr n) (h n))

pub none_entry : (test : Instr → Bool) → ((n : ℕ) → test (Divide n) ≡ false) → ((n : ℕ) → test (Alloc n) ≡ false) → ((n : ℕ) → test (CopyIn n) ≡ false)
    → ((n : ℕ) → test (Zero n) ≡ false) → ((n : ℕ) → test (TextEnd n) ≡ false) → (n : ℕ) (p : Param) → list_any test (entry_of n p) ≡ false
none_entry test d a c z t n p = go (is_marshalled p.class) (is_in p.class)
  where
    begun : (u : Bool) → list_any test ((if u then CopyIn n else Zero n) ∷ once (is_text p.class) (TextEnd n)) ≡ false
    begun true = neither (test (CopyIn n)) _ (c n) (none_if test (is_text p.class) (TextEnd n) (t n))
    begun false = neither (test (Zero n)) _ (z n) (none_if test (is_text p.class) (TextEnd n) (t n))

    go : (m u : Bool) → list_any test (if m then Divide n ∷ Alloc n ∷ (if u then CopyIn n else Zero n) ∷ once (is_text p.class) (TextEnd n) else []) ≡ false
    go true u = neither (test (Divide n)) _ (d n) (neither (test (Alloc n)) _ (a n) (begun u))
    go false u = refl

-- ---- one instruction among others

-- a list with this instruction prints what it prints
pub stands_in_append : (part a b : List ℕ) → Stands part b → Stands part (a ++ b)
stands_in_append part a b s =
    record { before = a ++ s.before; after = s.after; is = ap (λ l. a ++ l) s.is ∙ regroup a s.before part s.after }
  where
    regroup : (a b c d : List ℕ) → a ++ (b ++ c ++ d) ≡ (a ++ b) ++ c ++ d
    regroup a b c d = simp append_assoc

pub stands_first : (part b : List ℕ) → Stands part (part ++ b)
stands_first part b = record { before = []; after = b; is = refl }

pub stands_before : (part a b : List ℕ) → Stands part a → Stands part (a ++ b)
stands_before part a b s = record { before = s.before; after = s.after ++ b; is = ap (λ l. l ++ b) s.is ∙ regroup s.before part s.after b }
  where
    regroup : (a b c d : List ℕ) → (a ++ b ++ c) ++ d ≡ a ++ b ++ (c ++ d)
    regroup a b c d = simp append_assoc

-- the instruction of the parameter of a number is printed among those of the parameters that pass a test
stands_from : (f : FuncDecl) (o : ℕ) (is : Class → Bool) (instr : ℕ → Instr) (m n : ℕ) (ps : List Param) (q : Param)
    → slice_get ps n ≡ Some q → is q.class ≡ true
    → Stands (instr_text f o (instr (m + n))) (list_text f o (each_from m (λ n p. if is p.class then instr n ∷ [] else []) ps))
stands_from f o is instr m n [] q h k = absurd (cc)
stands_from f o is instr m zero (p ∷ ps) q h k =
    let same : p ≡ q = cc in
    let passes : is p.class ≡ true = rw same k in
    let place : m + 0 ≡ m = omega arith in
    rw (place, text_append f o (if is p.class then instr m ∷ [] else []) (each_from (suc m) (λ n p. if is p.class then instr n ∷ [] else []) ps), passes)
    (stands_before _ _ _ (stands_first (instr_text f o (instr m)) []))
stands_from f o is instr m (suc n) (p ∷ ps) q h k =
    let place : m + suc n ≡ suc m + n = omega arith in
    rw (place, text_append f o (if is p.class then instr m ∷ [] else []) (each_from (suc m) (λ n p. if is p.class then instr n ∷ [] else []) ps))
    (stands_in_append _ _ _ (stands_from f o is instr (suc m) n ps q h k))

pub stands_where : (f : FuncDecl) (o : ℕ) (is : Class → Bool) (instr : ℕ → Instr) (function : Function) (n : ℕ) (q : Param)
    → slice_get function.params n ≡ Some q → is q.class ≡ true → Stands (instr_text f o (instr n)) (list_text f o (where_is is instr function))
stands_where f o is instr function n q h k =
    let place : 0 + n ≡ n = omega arith in rw place at (stands_from f o is instr 0 n function.params q h k)

-- ---- the list at an ordinal

listed_from : (f : FuncDecl) (o n : ℕ) (functions : List Function) (function : Function) → slice_get functions n ≡ Some function
    → unwrap_or (option_map (list_text f o) (option_map (λ b. b.list) (slice_get (map ecall_bridge functions) n))) [] ≡ list_text f o (ecall_list function)
listed_from f o n [] function h = absurd (cc)
listed_from f o zero (g ∷ functions) function h = let same : g ≡ function = cc in ap (λ g. list_text f o (ecall_list g)) same
listed_from f o (suc n) (g ∷ functions) function h = listed_from f o n functions function h

pub listed : (i : Interface) (f : FuncDecl) (function : Function) (o : ℕ) → slice_get i.ecalls o ≡ Some function
    → listed_text (bridges_of i) true o f ≡ list_text f o (ecall_list function)
listed i f function o h = listed_from f o o i.ecalls function h
