-- Types agree. Behind a type stands a name, and behind a base a name, `const` or a star.
use Rattle.std.proofs.Common.{◌≡◌, ℕ, Bool, true, false, not, ◌⊎◌, inl, inr, List, [], ◌∷◌, ◌++◌, length, refl, Option, Some, Ok, Err}
use Rattle.std.specs.Prelude.{codes, slice_get, ◌||◌, is_some}
use Rattle.std.proofs.lemmas.Bool.{eqb-true}
use Prim.Native.String.{String}
use Rattle.edl_grammar.specs.declared.Base.{Base}
use Rattle.edl_grammar.specs.declared.Base.TheVariants as base
use Rattle.edl_grammar.specs.declared.Tag.{Tag}
use Rattle.edl_grammar.specs.declared.Tag.TheVariants as tag
use Rattle.edl_grammar.specs.declared.Written.{Written}
use Rattle.edl_grammar.specs.Symbols.{Symbol, Word, Number, Text, Mark, Lexed, is_reserved, reserved}
use Rattle.edl_grammar.specs.Production.{Production, Then}
use Rattle.edl_grammar.specs.Production as spell
use Rattle.edl_grammar.specs.Grammar.{joined, words_of, signed_base}
use Rattle.edl_grammar.specs.declared.Phrase.{Phrase}
use Rattle.edl_grammar.specs.Grammar as grammar
use Rattle.edl_grammar.specs.Parser.{Parser, Outcome, and_then, sees, is_word, is_mark, is_name, begins_type, is_int_word, is_sign, is_plain, is_named}
use Rattle.edl_grammar.specs.Parser as parse
use Rattle.edl_grammar.proofs.Agrees.{Agrees, anywhere, Ends, before, Begins, Avoids, agrees_where, agrees_as, pure_agrees, bind_agrees, optional_agrees, many_agrees, either_agrees}
use Rattle.edl_grammar.proofs.Tokens.{word_agrees, mark_agrees, name_agrees, word_is, mark_is}
use Rattle.edl_grammar.proofs.Heads.{Skips, then_begins, then_skips, either_skips, either_begins, word_begins, word_skips, mark_begins, name_begins, name_skips, Leads, leads_keeps, keeps_pure, then_leads, word_leads, mark_leads, either_leads, optional_leads, or_right, optional_keeps, many_keeps, not_name, or_cases, is_name_true}

-- ---- what stands behind a base, and behind a type

abbrev pub ends_type : Symbol → Bool
ends_type s = is_name s || is_mark ")" s

abbrev pub follows_base : Symbol → Bool
follows_base s = is_word "const" s || (is_mark "*" s || ends_type s)

abbrev pub at_base_end : Ends
at_base_end = sees follows_base

abbrev pub at_name : Ends
at_name = sees ends_type

pub ends_type_name : (w : List ℕ) → is_reserved w ≡ false → ends_type (Word w) ≡ true
ends_type_name w e = rw e refl

word_false : (spelling : String) (k : ℕ) → slice_get reserved k ≡ Some (codes spelling) → (s : Symbol) → ends_type s ≡ true → is_word spelling s ≡ false
word_false spelling k at (Word w) e = not_name spelling k at w (go (is_reserved w) e)
  where
    go : (b : Bool) → not b || false ≡ true → b ≡ false
    go true h = absurd cc
    go false h = refl
word_false spelling k at (Number n) e = refl
word_false spelling k at (Text t) e = refl
word_false spelling k at (Mark b) e = refl

star_false : (s : Symbol) → ends_type s ≡ true → is_mark "*" s ≡ false
star_false (Word w) e = refl
star_false (Number n) e = absurd cc
star_false (Text t) e = absurd cc
star_false (Mark b) e = let h : b ≡ 41 = eqb-true b 41 e in rw h refl

-- a word that is neither `const` nor a name does not follow a base
base_end_false : (spelling : String) (k : ℕ) → slice_get reserved k ≡ Some (codes spelling) → is_word spelling (Word (codes "const")) ≡ false → (rest : List Lexed) → at_base_end rest ≡ true → sees (is_word spelling) rest ≡ false
base_end_false spelling k at other [] e = refl
base_end_false spelling k at other (x ∷ xs) e = go x.symbol e
  where
    by_star : (s : Symbol) → (is_mark "*" s ≡ true) ⊎ (ends_type s ≡ true) → is_word spelling s ≡ false
    by_star s (inl h) = rw (mark_is "*" s h) refl
    by_star s (inr h) = word_false spelling k at s h

    by_const : (s : Symbol) → (is_word "const" s ≡ true) ⊎ (is_mark "*" s || ends_type s ≡ true) → is_word spelling s ≡ false
    by_const s (inl h) = rw (word_is "const" s h) other
    by_const s (inr h) = by_star s (or_cases (is_mark "*" s) (ends_type s) h)

    go : (s : Symbol) → follows_base s ≡ true → is_word spelling s ≡ false
    go s h = by_const s (or_cases (is_word "const" s) (is_mark "*" s || ends_type s) h)

-- a name behind a type is no star and no `const`
name_end_false : (spelling : String) (k : ℕ) → slice_get reserved k ≡ Some (codes spelling) → (rest : List Lexed) → at_name rest ≡ true → sees (is_word spelling) rest ≡ false
name_end_false spelling k at [] e = refl
name_end_false spelling k at (x ∷ xs) e = word_false spelling k at x.symbol e

name_end_star : (rest : List Lexed) → at_name rest ≡ true → sees (is_mark "*") rest ≡ false
name_end_star [] e = refl
name_end_star (x ∷ xs) e = star_false x.symbol e

-- ---- phrases

pub said_agrees : (spelling : String) → Agrees (grammar.said spelling) (parse.said spelling) anywhere
said_agrees spelling = bind_agrees (word_agrees spelling) (λ n. pure_agrees (record { token = n; words = codes spelling ∷ [] })) (λ a back rest b d e. refl)

said_begins : (spelling : String) (test : Symbol → Bool) → test (Word (codes spelling)) ≡ true → Begins (grammar.said spelling) test
said_begins spelling test t = then_begins test (word_begins spelling test t)

said_skips : (spelling : String) (test : Symbol → Bool) → test (Word (codes spelling)) ≡ false → Skips (grammar.said spelling) test
said_skips spelling test t = then_skips test (word_skips spelling test t)

-- a word that may follow, where what stands before may end before it
maybe_agrees : {P : Production Phrase} {p : Parser Phrase} {ends : Ends} (ends' : Ends) (spelling : String) → is_word spelling (Word (codes spelling)) ≡ true
    → Agrees P p ends → ((rest : List Lexed) → ends' rest ≡ true → ends rest ≡ true) → Leads (grammar.said spelling) ends
    → ((rest : List Lexed) → ends' rest ≡ true → sees (is_word spelling) rest ≡ false)
    → Agrees (grammar.◌then_maybe◌ P spelling) (parse.◌then_maybe◌ p spelling) ends'
maybe_agrees {ends = ends} ends' spelling same h to leads not_word =
    bind_agrees h (λ a. bind_agrees (agrees_where ends' (λ rest e. rw (not_word rest e) refl) (optional_agrees (is_word spelling) (said_agrees spelling) (said_begins spelling (is_word spelling) same)))
    (λ b. agrees_where ends' (λ rest e. refl) (pure_agrees (joined a b))) (λ b. keeps_pure (joined a b) ends' ends' (λ rest e. e)))
    (λ a. optional_keeps ends ends' leads (λ b. keeps_pure (joined a b) ends ends' to))

-- a phrase, and what it means
means_agrees : {A : Type 0} {P : Production Phrase} {p : Parser Phrase} {ends : Ends} (a : A) → Agrees P p ends → Agrees (grammar.◌means◌ P a) (parse.◌means◌ p a) ends
means_agrees {ends = ends} a h = bind_agrees h (λ phrase. agrees_where ends (λ rest e. refl) (pure_agrees (a, phrase))) (λ phrase. keeps_pure (a, phrase) ends ends (λ rest e. e))

-- not before `long`
abbrev not_long : Ends
not_long rest = not (sees (is_word "long") rest)

pub is_false : (b : Bool) → not b ≡ true → b ≡ false
is_false true e = absurd cc
is_false false e = refl

short_agrees : Agrees (grammar.◌then_maybe◌ (grammar.said "short") "int") (parse.◌then_maybe◌ (parse.said "short") "int") at_base_end
short_agrees = maybe_agrees at_base_end "int" refl (said_agrees "short") (λ rest e. refl) (λ front rest a d. refl) (base_end_false "int" 16 refl refl)

long_long_agrees : Agrees (grammar.◌then_maybe◌ (grammar.said "long") "long") (parse.◌then_maybe◌ (parse.said "long") "long") not_long
long_long_agrees = maybe_agrees not_long "long" refl (said_agrees "long") (λ rest e. refl) (λ front rest a d. refl) (λ rest e. is_false (sees (is_word "long") rest) e)

long_agrees : Agrees (grammar.◌then_maybe◌ (grammar.◌then_maybe◌ (grammar.said "long") "long") "int") (parse.◌then_maybe◌ (parse.◌then_maybe◌ (parse.said "long") "long") "int") at_base_end
long_agrees = maybe_agrees at_base_end "int" refl long_long_agrees (λ rest e. rw (base_end_false "long" 17 refl refl rest e) refl) (then_leads not_long (word_leads "int" not_long (λ n rest. refl))) (base_end_false "int" 16 refl refl)

-- at such an end, whatever came before
at_end : {A : Type 0} {P : Production A} {p : Parser A} → Agrees P p anywhere → Agrees P p at_base_end
at_end h = agrees_where at_base_end (λ rest e. refl) h

skips_end : {A : Type 0} {P : Production A} (test : Symbol → Bool) → Skips P test → Avoids P test at_base_end
skips_end test h front rest a d e = h front rest a d

-- ---- integers

pub int_agrees : Agrees grammar.int parse.int at_base_end
unfolding parse.int
int_agrees =
    either_agrees (is_word "char") (at_end (means_agrees 1 (said_agrees "char")))
    (either_agrees (is_word "short") (means_agrees 2 short_agrees)
    (either_agrees (is_word "int") (at_end (means_agrees 4 (said_agrees "int"))) (means_agrees 8 long_agrees)
    (then_begins (is_word "int") (said_begins "int" (is_word "int") refl))
    (skips_end (is_word "int") (then_skips (is_word "int") (then_skips (is_word "int") (then_skips (is_word "int") (said_skips "long" (is_word "int") refl))))))
    (then_begins (is_word "short") (then_begins (is_word "short") (said_begins "short" (is_word "short") refl)))
    (skips_end (is_word "short") (either_skips (is_word "short") (then_skips (is_word "short") (said_skips "int" (is_word "short") refl))
    (then_skips (is_word "short") (then_skips (is_word "short") (then_skips (is_word "short") (said_skips "long" (is_word "short") refl)))))))
    (then_begins (is_word "char") (said_begins "char" (is_word "char") refl))
    (skips_end (is_word "char") (either_skips (is_word "char") (then_skips (is_word "char") (then_skips (is_word "char") (said_skips "short" (is_word "char") refl)))
    (either_skips (is_word "char") (then_skips (is_word "char") (said_skips "int" (is_word "char") refl))
    (then_skips (is_word "char") (then_skips (is_word "char") (then_skips (is_word "char") (said_skips "long" (is_word "char") refl)))))))

int_begins : Begins grammar.int is_int_word
int_begins =
    either_begins is_int_word (then_begins is_int_word (said_begins "char" is_int_word refl))
    (either_begins is_int_word (then_begins is_int_word (then_begins is_int_word (said_begins "short" is_int_word refl)))
    (either_begins is_int_word (then_begins is_int_word (said_begins "int" is_int_word refl))
    (then_begins is_int_word (then_begins is_int_word (then_begins is_int_word (said_begins "long" is_int_word refl))))))

int_skips : (test : Symbol → Bool) → test (Word (codes "char")) ≡ false → test (Word (codes "short")) ≡ false → test (Word (codes "int")) ≡ false → test (Word (codes "long")) ≡ false → Skips grammar.int test
int_skips test a b c d =
    either_skips test (then_skips test (said_skips "char" test a))
    (either_skips test (then_skips test (then_skips test (said_skips "short" test b)))
    (either_skips test (then_skips test (said_skips "int" test c))
    (then_skips test (then_skips test (then_skips test (said_skips "long" test d))))))

int_leads : (ends : Ends) → ((n : ℕ) (w : List ℕ) (rest : List Lexed) → is_int_word (Word w) ≡ true → ends (record { token = n; symbol = Word w } ∷ rest) ≡ true) → Leads grammar.int ends
int_leads ends t =
    either_leads ends (then_leads ends (then_leads ends (word_leads "char" ends (λ n rest. t n (codes "char") rest refl))))
    (either_leads ends (then_leads ends (then_leads ends (then_leads ends (word_leads "short" ends (λ n rest. t n (codes "short") rest refl)))))
    (either_leads ends (then_leads ends (then_leads ends (word_leads "int" ends (λ n rest. t n (codes "int") rest refl))))
    (then_leads ends (then_leads ends (then_leads ends (then_leads ends (word_leads "long" ends (λ n rest. t n (codes "long") rest refl))))))))

sign_agrees : Agrees grammar.sign parse.sign anywhere
sign_agrees =
    either_agrees (is_word "signed") (means_agrees true (said_agrees "signed")) (means_agrees false (said_agrees "unsigned"))
    (then_begins (is_word "signed") (said_begins "signed" (is_word "signed") refl))
    (λ front rest a d e. then_skips (is_word "signed") (said_skips "unsigned" (is_word "signed") refl) front rest a d)

sign_begins : Begins grammar.sign is_sign
sign_begins = either_begins is_sign (then_begins is_sign (said_begins "signed" is_sign refl)) (then_begins is_sign (said_begins "unsigned" is_sign refl))

sign_skips : (test : Symbol → Bool) → test (Word (codes "signed")) ≡ false → test (Word (codes "unsigned")) ≡ false → Skips grammar.sign test
sign_skips test a b = either_skips test (then_skips test (said_skips "signed" test a)) (then_skips test (said_skips "unsigned" test b))

-- no integer word follows a base
no_int_word : (rest : List Lexed) → at_base_end rest ≡ true → sees is_int_word rest ≡ false
no_int_word [] e = refl
no_int_word (x ∷ xs) e =
    rw (base_end_false "char" 14 refl refl (x ∷ xs) e, base_end_false "short" 15 refl refl (x ∷ xs) e, base_end_false "int" 16 refl refl (x ∷ xs) e, base_end_false "long" 17 refl refl (x ∷ xs) e) refl

plain_int_agrees : Agrees grammar.plain_int (parse.◌>>=◌ parse.int (λ i. parse.pure (base.Integer i.0 true, i.1))) at_base_end
plain_int_agrees = bind_agrees int_agrees (λ i. at_end (pure_agrees (base.Integer i.0 true, i.1))) (λ i. keeps_pure (base.Integer i.0 true, i.1) at_base_end at_base_end (λ rest e. e))

signed_int_agrees : Agrees grammar.signed_int (parse.◌>>=◌ parse.sign (λ s. parse.◌>>=◌ (parse.optional is_int_word parse.int) (λ i. parse.pure (signed_base s i)))) at_base_end
signed_int_agrees =
    bind_agrees sign_agrees (λ s.
    bind_agrees (agrees_where at_base_end (λ rest e. rw (no_int_word rest e) e) (optional_agrees is_int_word int_agrees int_begins))
    (λ i. at_end (pure_agrees (signed_base s i))) (λ i. keeps_pure (signed_base s i) at_base_end at_base_end (λ rest e. e)))
    (λ a back rest b d e. refl)

bare_agrees : Agrees grammar.bare parse.bare anywhere
bare_agrees = bind_agrees name_agrees (λ n. pure_agrees (base.Bare n.name, record { token = n.token; words = n.name ∷ [] })) (λ a back rest b d e. refl)

tagged_agrees : (spelling : String) (t : Tag) → Agrees (grammar.tagged spelling t) (parse.tagged spelling t) anywhere
tagged_agrees spelling t =
    bind_agrees (word_agrees spelling) (λ _.
    bind_agrees name_agrees (λ n. pure_agrees (base.Tagged t n.name, record { token = n.token; words = codes spelling ∷ n.name ∷ [] })) (λ a back rest b d e. refl))
    (λ a back rest b d e. refl)

-- ---- all bases, each of which begins with another word

-- from the last alternative to the first: none of the others begins with a word that the first begins with
bare_skips : (spelling : String) (k : ℕ) → slice_get reserved k ≡ Some (codes spelling) → Skips grammar.bare (is_word spelling)
bare_skips spelling k at = then_skips (is_word spelling) (name_skips (is_word spelling) (not_name spelling k at))

tagged_skips : (spelling : String) (t : Tag) (test : Symbol → Bool) → test (Word (codes spelling)) ≡ false → Skips (grammar.tagged spelling t) test
tagged_skips spelling t test h = then_skips test (word_skips spelling test h)

bare_no_int : Skips grammar.bare is_int_word
bare_no_int = then_skips is_int_word (name_skips is_int_word (λ w e. rw (not_name "char" 14 refl w e, not_name "short" 15 refl w e, not_name "int" 16 refl w e, not_name "long" 17 refl w e) refl))

bare_no_sign : Skips grammar.bare is_sign
bare_no_sign = then_skips is_sign (name_skips is_sign (λ w e. rw (not_name "signed" 18 refl w e, not_name "unsigned" 19 refl w e) refl))

-- the last alternatives, as the grammar joins them
abbrev union_on : Production (Base × Phrase)
union_on = spell.◌<|>◌ (grammar.tagged "union" tag.Union) grammar.bare

abbrev enum_on : Production (Base × Phrase)
enum_on = spell.◌<|>◌ (grammar.tagged "enum" tag.Enum) union_on

abbrev struct_on : Production (Base × Phrase)
struct_on = spell.◌<|>◌ (grammar.tagged "struct" tag.Struct) enum_on

abbrev signed_on : Production (Base × Phrase)
signed_on = spell.◌<|>◌ grammar.signed_int struct_on

abbrev plain_on : Production (Base × Phrase)
plain_on = spell.◌<|>◌ grammar.plain_int signed_on

struct_on_skips : (test : Symbol → Bool) → test (Word (codes "struct")) ≡ false → test (Word (codes "enum")) ≡ false → test (Word (codes "union")) ≡ false → Skips grammar.bare test → Skips struct_on test
struct_on_skips test a b c h =
    either_skips test (tagged_skips "struct" tag.Struct test a) (either_skips test (tagged_skips "enum" tag.Enum test b) (either_skips test (tagged_skips "union" tag.Union test c) h))

-- the alternatives behind `void`, `float` and `double`
plain_on_skips : (spelling : String) (k : ℕ) → slice_get reserved k ≡ Some (codes spelling)
    → is_word spelling (Word (codes "char")) ≡ false → is_word spelling (Word (codes "short")) ≡ false → is_word spelling (Word (codes "int")) ≡ false → is_word spelling (Word (codes "long")) ≡ false
    → is_word spelling (Word (codes "signed")) ≡ false → is_word spelling (Word (codes "unsigned")) ≡ false
    → is_word spelling (Word (codes "struct")) ≡ false → is_word spelling (Word (codes "enum")) ≡ false → is_word spelling (Word (codes "union")) ≡ false
    → Skips plain_on (is_word spelling)
plain_on_skips spelling k at a b c d e f g h i =
    let test = is_word spelling in
    either_skips test (then_skips test (int_skips test a b c d)) (either_skips test (then_skips test (sign_skips test e f)) (struct_on_skips test g h i (bare_skips spelling k at)))

pub base_agrees : Agrees grammar.base_type parse.base_type at_base_end
unfolding parse.base_type
base_agrees =
    either_agrees (is_word "void") (at_end (means_agrees base.Void (said_agrees "void")))
    (either_agrees (is_word "float") (at_end (means_agrees base.Float (said_agrees "float")))
    (either_agrees (is_word "double") (at_end (means_agrees base.Double (said_agrees "double")))
    (either_agrees is_int_word plain_int_agrees
    (either_agrees is_sign signed_int_agrees
    (either_agrees (is_word "struct") (at_end (tagged_agrees "struct" tag.Struct))
    (either_agrees (is_word "enum") (at_end (tagged_agrees "enum" tag.Enum))
    (either_agrees (is_word "union") (at_end (tagged_agrees "union" tag.Union)) (at_end bare_agrees)
    (tagged_begins "union" tag.Union refl) (skips_end (is_word "union") (bare_skips "union" 11 refl)))
    (tagged_begins "enum" tag.Enum refl)
    (skips_end (is_word "enum") (either_skips (is_word "enum") (tagged_skips "union" tag.Union (is_word "enum") refl) (bare_skips "enum" 9 refl))))
    (tagged_begins "struct" tag.Struct refl)
    (skips_end (is_word "struct") (either_skips (is_word "struct") (tagged_skips "enum" tag.Enum (is_word "struct") refl) (either_skips (is_word "struct") (tagged_skips "union" tag.Union (is_word "struct") refl) (bare_skips "struct" 10 refl)))))
    (then_begins is_sign sign_begins)
    (skips_end is_sign (struct_on_skips is_sign refl refl refl bare_no_sign)))
    (then_begins is_int_word int_begins)
    (skips_end is_int_word (either_skips is_int_word (then_skips is_int_word (sign_skips is_int_word refl refl)) (struct_on_skips is_int_word refl refl refl bare_no_int))))
    (then_begins (is_word "double") (said_begins "double" (is_word "double") refl))
    (skips_end (is_word "double") (plain_on_skips "double" 21 refl refl refl refl refl refl refl refl refl refl)))
    (then_begins (is_word "float") (said_begins "float" (is_word "float") refl))
    (skips_end (is_word "float") (either_skips (is_word "float") (then_skips (is_word "float") (said_skips "double" (is_word "float") refl)) (plain_on_skips "float" 20 refl refl refl refl refl refl refl refl refl refl))))
    (then_begins (is_word "void") (said_begins "void" (is_word "void") refl))
    (skips_end (is_word "void") (either_skips (is_word "void") (then_skips (is_word "void") (said_skips "float" (is_word "void") refl))
    (either_skips (is_word "void") (then_skips (is_word "void") (said_skips "double" (is_word "void") refl)) (plain_on_skips "void" 13 refl refl refl refl refl refl refl refl refl refl))))
  where
    tagged_begins : (spelling : String) (t : Tag) → is_word spelling (Word (codes spelling)) ≡ true → Begins (grammar.tagged spelling t) (is_word spelling)
    tagged_begins spelling t h = then_begins (is_word spelling) (word_begins spelling (is_word spelling) h)

-- ---- types with `const` and stars

base_skips : (test : Symbol → Bool) → test (Word (codes "void")) ≡ false → test (Word (codes "float")) ≡ false → test (Word (codes "double")) ≡ false
    → test (Word (codes "char")) ≡ false → test (Word (codes "short")) ≡ false → test (Word (codes "int")) ≡ false → test (Word (codes "long")) ≡ false
    → test (Word (codes "signed")) ≡ false → test (Word (codes "unsigned")) ≡ false
    → test (Word (codes "struct")) ≡ false → test (Word (codes "enum")) ≡ false → test (Word (codes "union")) ≡ false → Skips grammar.bare test
    → Skips grammar.base_type test
base_skips test v f d a b c l s u st en un h =
    either_skips test (then_skips test (said_skips "void" test v)) (either_skips test (then_skips test (said_skips "float" test f)) (either_skips test (then_skips test (said_skips "double" test d))
    (either_skips test (then_skips test (int_skips test a b c l)) (either_skips test (then_skips test (sign_skips test s u)) (struct_on_skips test st en un h)))))

base_no_const : Leads grammar.base_type (before (is_word "const") anywhere)
base_no_const front rest b d = rw (base_skips (is_word "const") refl refl refl refl refl refl refl refl refl refl refl refl (bare_skips "const" 12 refl) front rest b d) refl

const_leads : (ends : Ends) → ((n : ℕ) (rest : List Lexed) → ends (record { token = n; symbol = Word (codes "const") } ∷ rest) ≡ true) → Leads (grammar.said "const") ends
const_leads ends t = then_leads ends (word_leads "const" ends t)

name_follows_base : (rest : List Lexed) → at_name rest ≡ true → at_base_end rest ≡ true
name_follows_base [] e = absurd cc
name_follows_base (x ∷ xs) e = rw (word_false "const" 12 refl x.symbol e, star_false x.symbol e) e

const_agrees : Agrees (spell.optional (grammar.said "const")) (parse.optional (is_word "const") (parse.said "const")) (before (is_word "const") anywhere)
const_agrees = optional_agrees (is_word "const") (said_agrees "const") (said_begins "const" (is_word "const") refl)

stars_agree : Agrees (spell.many (spell.mark "*")) (parse.many (is_mark "*") (parse.mark "*")) (before (is_mark "*") anywhere)
stars_agree = many_agrees (is_mark "*") (mark_agrees "*") (mark_begins "*" (is_mark "*") refl) (λ rest e. refl)

abbrev pub writing : Option Phrase → Base × Phrase → Option Phrase → List ℕ → Written
writing before' b after stars = record {
  token = b.1.token;
  words = words_of before' ++ b.1.words ++ words_of after;
  base = b.0;
  is_const = is_some before' || is_some after;
  stars = length stars;
}

abbrev no_const : Ends
no_const = before (is_word "const") anywhere

abbrev no_star : Ends
no_star = before (is_mark "*") anywhere

name_no_const : (rest : List Lexed) → at_name rest ≡ true → no_const rest ≡ true
name_no_const rest e = rw (name_end_false "const" 12 refl rest e) refl

name_no_star : (rest : List Lexed) → at_name rest ≡ true → no_star rest ≡ true
name_no_star rest e = rw (name_end_star rest e) refl

-- the stars as a list, and their number
counted : {B : Type 0} (k : ℕ → Parser B) (r : Outcome (List ℕ)) → and_then r (λ s rest. k (length s) rest) ≡ and_then (and_then r (λ s rest. Ok (length s, rest))) k
counted k (Ok x) = refl
counted k (Err x) = refl

abbrev listed : Parser Written
listed =
    parse.◌>>=◌ (parse.optional (is_word "const") (parse.said "const")) (λ c. parse.◌>>=◌ parse.base_type (λ b.
    parse.◌>>=◌ (parse.optional (is_word "const") (parse.said "const")) (λ d. parse.◌>>=◌ (parse.many (is_mark "*") (parse.mark "*")) (λ s. parse.pure (writing c b d s)))))

counted_stars : (ss : List Lexed) → listed ss ≡ parse.written ss
unfolding parse.written
counted_stars ss = λ i. and_then (parse.optional (is_word "const") (parse.said "const") ss) (λ c r. and_then (parse.base_type r) (λ b r'. and_then (parse.optional (is_word "const") (parse.said "const") r')
    (λ d t. counted (λ n. parse.pure (parse.written_by c b d n)) (parse.many (is_mark "*") (parse.mark "*") t) i)))

listed_agrees : Agrees grammar.written listed at_name
listed_agrees =
    bind_agrees const_agrees (λ c.
    bind_agrees base_agrees (λ b.
    bind_agrees const_agrees (λ d.
    bind_agrees stars_agree (λ s. agrees_where at_name (λ rest e. refl) (pure_agrees (writing c b d s)))
    (λ s. keeps_pure (writing c b d s) no_star at_name name_no_star))
    (λ d. many_keeps no_const at_name (mark_leads "*" no_const (λ n rest. refl)) (λ s. keeps_pure (writing c b d s) no_const at_name name_no_const)))
    (λ b. optional_keeps at_base_end at_name (const_leads at_base_end (λ n rest. refl))
    (λ d. many_keeps at_base_end at_name (mark_leads "*" at_base_end (λ n rest. refl)) (λ s. keeps_pure (writing c b d s) at_base_end at_name name_follows_base))))
    (λ c. leads_keeps no_const at_name (then_leads no_const base_no_const))

pub written_agrees : Agrees grammar.written parse.written at_name
written_agrees = agrees_as counted_stars listed_agrees

-- ---- how types begin

begins_type_name : (s : Symbol) → is_name s ≡ true → begins_type s ≡ true
begins_type_name s e =
    or_right (is_word "const" s || is_plain s || is_int_word s || is_sign s) (is_named s)
    (or_right (is_word "struct" s || is_word "enum" s || is_word "union" s) (is_name s) e)

base_begins : Begins grammar.base_type begins_type
base_begins =
    either_begins t (then_begins t (said_begins "void" t refl)) (either_begins t (then_begins t (said_begins "float" t refl)) (either_begins t (then_begins t (said_begins "double" t refl))
    (either_begins t (then_begins t ints) (either_begins t (then_begins t (either_begins t (then_begins t (said_begins "signed" t refl)) (then_begins t (said_begins "unsigned" t refl))))
    (either_begins t (then_begins t (word_begins "struct" t refl)) (either_begins t (then_begins t (word_begins "enum" t refl)) (either_begins t (then_begins t (word_begins "union" t refl))
    (then_begins t (name_begins t name_in)))))))))
  where
    t : Symbol → Bool
    t = begins_type

    ints : Begins grammar.int begins_type
    ints = either_begins begins_type (then_begins begins_type (said_begins "char" begins_type refl))
        (either_begins begins_type (then_begins begins_type (then_begins begins_type (said_begins "short" begins_type refl)))
        (either_begins begins_type (then_begins begins_type (said_begins "int" begins_type refl))
        (then_begins begins_type (then_begins begins_type (then_begins begins_type (said_begins "long" begins_type refl))))))

    name_in : (w : List ℕ) → is_reserved w ≡ false → begins_type (Word w) ≡ true
    name_in w e = begins_type_name (Word w) (is_name_true w e)

pub written_begins : Begins grammar.written begins_type
written_begins = optional_leads (sees begins_type) (said_begins "const" begins_type refl) (λ c. then_begins begins_type base_begins)

-- a type begins with a word
pub written_skips : (test : Symbol → Bool) → ((w : List ℕ) → test (Word w) ≡ false) → Skips grammar.written test
written_skips test t front rest w d = is_false (sees test (front ++ rest)) (leads front rest w d)
  where
    no : Ends
    no ss = not (sees test ss)

    base_leads : Leads grammar.base_type no
    base_leads f r b h = rw (base_skips test (t (codes "void")) (t (codes "float")) (t (codes "double")) (t (codes "char")) (t (codes "short")) (t (codes "int")) (t (codes "long")) (t (codes "signed")) (t (codes "unsigned"))
        (t (codes "struct")) (t (codes "enum")) (t (codes "union")) (then_skips test (name_skips test (λ w e. t w))) f r b h) refl

    leads : Leads grammar.written no
    leads = optional_leads no (λ f r a h. rw (said_skips "const" test (t (codes "const")) f r a h) refl) (λ c. then_leads no base_leads)
