-- Parameters, which are read by their first symbol; `void` alone is known by the bracket behind it.
use Rattle.std.proofs.Common.{arith, length, append_assoc, append-nil, inl, inr, ◌≡◌, ℕ, Bool, true, false, not, ◌&&◌, List, [], ◌∷◌, ◌++◌, refl, sym, ◌∙◌, ap, subst, Option, Some, None}
use Rattle.std.specs.Prelude.{codes, slice_index}
use Prim.Native.String.{String}
use Rattle.edl_grammar.specs.declared.Declared.{Declared}
use Rattle.edl_grammar.specs.declared.Attribute.{Attribute}
use Rattle.edl_grammar.specs.declared.Written.{Written}
use Rattle.edl_grammar.specs.declared.Base.{Base}
use Rattle.edl_grammar.specs.declared.Base.TheVariants as base
use Rattle.edl_grammar.specs.declared.Tag.{Tag}
use Rattle.edl_grammar.specs.declared.Tag.TheVariants as tag
use Rattle.std.proofs.lemmas.Bool.{eqb-true}
use Rattle.edl_grammar.specs.Symbols.{Mark, Lexed}
use Rattle.edl_grammar.specs.Production.{Production, Then}
use Rattle.edl_grammar.specs.Production as spell
use Rattle.edl_grammar.specs.Grammar.{list_of, signed_base}
use Rattle.edl_grammar.specs.declared.Phrase.{Phrase}
use Rattle.edl_grammar.specs.Grammar as grammar
use Rattle.edl_grammar.specs.Parser.{sees, is_word, is_mark, is_name, begins_type, is_lone_void}
use Rattle.edl_grammar.specs.Parser as parse
use Rattle.edl_grammar.proofs.Agrees.{Agrees, Ends, before, agrees_by, agrees_where, agrees_as, pure_agrees, bind_agrees, many_agrees, either_agrees, either_agrees_at, both_true}
use Rattle.edl_grammar.proofs.Tokens.{mark_agrees, name_agrees, mark_is}
use Rattle.edl_grammar.proofs.Heads.{Keeps, then_begins, then_skips, mark_begins, leads_keeps, keeps_pure, then_leads, mark_leads, name_leads, many_keeps}
use Rattle.edl_grammar.proofs.Types.{at_name, ends_type_name, written_agrees, written_skips, writing}
use Rattle.edl_grammar.proofs.Productions.{as_front, at_mark, no_dim, dim_agrees, dim_begins, declared_agrees, param_agrees, attributes_agree}

-- a mark is not another
other_mark : (m k : String) → is_mark k (Mark (slice_index (codes m) 0)) ≡ false → (rest : List Lexed) → at_mark m rest ≡ true → sees (is_mark k) rest ≡ false
other_mark m k d [] e = refl
other_mark m k d (x ∷ xs) e = rw (mark_is m x.symbol e) d

-- ---- the parameters behind a first one

abbrev more_of : Declared → Production (List Declared)
more_of d = Then (spell.many (spell.◌>>◌ (spell.mark ",") grammar.param)) (λ ds. spell.pure (d ∷ ds))

abbrev last : Ends
last = before (is_mark ",") no_dim

comma_ends : (rest : List Lexed) → sees (is_mark ",") rest ≡ true → no_dim rest ≡ true
comma_ends rest e = rw (other_mark "," "[" refl rest e) refl

more_agrees : (d : Declared) → Agrees (more_of d) (parse.more parse.param d) last
more_agrees d =
    agrees_as (λ ss. as_front d (parse.many (is_mark ",") (parse.◌>>◌ (parse.mark ",") parse.param) ss)) (
    bind_agrees (many_agrees (is_mark ",") (bind_agrees (mark_agrees ",") (λ _. param_agrees) (λ n back rest b d e. refl)) (then_begins (is_mark ",") (mark_begins "," (is_mark ",") refl)) comma_ends)
    (λ ds. agrees_where last (λ rest e. refl) (pure_agrees (d ∷ ds))) (λ ds. keeps_pure (d ∷ ds) last last (λ rest e. e)))

-- behind a declaration
more_keeps : (d : Declared) → Keeps (more_of d) no_dim last
more_keeps d = many_keeps no_dim last (then_leads no_dim (mark_leads "," no_dim (λ n rest. refl))) (λ ds. keeps_pure (d ∷ ds) no_dim last (λ rest e. (both_true (not (sees (is_mark ",") rest)) (no_dim rest) e).1))

paren_last : (rest : List Lexed) → at_mark ")" rest ≡ true → last rest ≡ true
paren_last rest e = rw (other_mark ")" "," refl rest e, other_mark ")" "[" refl rest e) refl

-- ---- by the first symbol

abbrev as_declared : Written → List Attribute → Production Declared
as_declared w attrs = Then spell.name (λ n. Then (spell.many grammar.dim) (λ dims. spell.pure (record { token = n.token; name = n.name; written = w; dims = dims; attrs = attrs })))

as_declared_agrees : (w : Written) → Agrees (as_declared w []) (parse.declared_as w []) no_dim
as_declared_agrees w =
    bind_agrees name_agrees (λ n.
    bind_agrees (many_agrees (is_mark "[") dim_agrees dim_begins (λ rest e. refl))
    (λ dims. agrees_where no_dim (λ rest e. refl) (pure_agrees (record { token = n.token; name = n.name; written = w; dims = dims; attrs = [] })))
    (λ a back rest b d e. rw d.0 e))
    (λ a back rest b d e. refl)

abbrev named_param : Written → Production (List Declared)
named_param w = Then (as_declared w []) more_of

named_param_agrees : (w : Written) → Agrees (named_param w) (parse.named_param w) (at_mark ")")
named_param_agrees w = agrees_where (at_mark ")") paren_last (bind_agrees (as_declared_agrees w) more_agrees more_keeps)

abbrev params_by : Bool → Written → Production (List Declared)
params_by true w = spell.◌<|>◌ (spell.pure []) (named_param w)
params_by false w = named_param w

params_by_agrees : (b : Bool) (w : Written) → Agrees (params_by b w) (parse.params_by b w) (at_mark ")")
params_by_agrees false w = named_param_agrees w
params_by_agrees true w =
    either_agrees_at (is_mark ")") (agrees_where (at_mark ")") (λ rest e. refl) (pure_agrees [])) (named_param_agrees w)
    (λ front rest a d e. rw d.0 e)
    (λ front rest a d e. then_skips (is_mark ")") (then_skips (is_mark ")") (λ f r n h. rw h.0 refl)) front rest a d)

abbrev attributed : Production (List Declared)
attributed = Then grammar.attributes (λ attrs. Then (grammar.declared attrs) more_of)

abbrev typed : Production (List Declared)
typed = Then grammar.written (λ w. params_by (is_lone_void w) w)

attributed_agrees : Agrees attributed (parse.◌>>=◌ parse.attributes (λ attrs. parse.◌>>=◌ (parse.declared attrs) (parse.more parse.param))) (at_mark ")")
attributed_agrees = agrees_where (at_mark ")") paren_last (bind_agrees attributes_agree (λ attrs. bind_agrees (declared_agrees attrs) more_agrees more_keeps) (λ a back rest b d e. refl))

paren_name : (rest : List Lexed) → at_mark ")" rest ≡ true → at_name rest ≡ true
paren_name [] e = absurd cc
paren_name (x ∷ xs) e = rw (mark_is ")" x.symbol e) refl

named_keeps : (w : Written) → Keeps (named_param w) at_name (at_mark ")")
named_keeps w = leads_keeps at_name (at_mark ")") (then_leads at_name (then_leads at_name (name_leads at_name (λ n v rest e. ends_type_name v e))))

params_by_keeps : (b : Bool) (w : Written) → Keeps (params_by b w) at_name (at_mark ")")
params_by_keeps false w = named_keeps w
params_by_keeps true w = go
  where
    go : Keeps (spell.◌<|>◌ (spell.pure []) (named_param w)) at_name (at_mark ")")
    go back rest a (inl d) e = rw d.0 (paren_name rest e)
    go back rest a (inr d) e = named_keeps w back rest a d e

typed_agrees : Agrees typed (parse.◌>>=◌ parse.written (λ w. parse.params_by (is_lone_void w) w)) (at_mark ")")
typed_agrees = bind_agrees written_agrees (λ w. params_by_agrees (is_lone_void w) w) (λ w. params_by_keeps (is_lone_void w) w)

by_symbol : Agrees (spell.◌<|>◌ (spell.pure []) (spell.◌<|>◌ attributed typed)) parse.params (at_mark ")")
unfolding parse.params
by_symbol =
    either_agrees_at (is_mark ")") (agrees_where (at_mark ")") (λ rest e. refl) (pure_agrees []))
    (either_agrees (is_mark "[") attributed_agrees typed_agrees
    (then_begins (is_mark "[") (then_begins (is_mark "[") (mark_begins "[" (is_mark "[") refl)))
    (λ front rest a d e. then_skips (is_mark "[") (written_skips (is_mark "[") (λ w. refl)) front rest a d))
    (λ front rest a d e. rw d.0 e)
    avoids
  where
    avoids : (front rest : List Lexed) (a : List Declared) → (spell.◌<|>◌ attributed typed) front a → at_mark ")" rest ≡ true → sees (is_mark ")") (front ++ rest) ≡ false
    avoids front rest a (inl d) e = then_skips (is_mark ")") (then_skips (is_mark ")") (λ f r n h. rw h refl)) front rest a d
    avoids front rest a (inr d) e = then_skips (is_mark ")") (written_skips (is_mark ")") (λ w. refl)) front rest a d

-- ---- the same as the grammar says

not_tagged : {X : Type 0} (t : Tag) (name : List ℕ) (p : Phrase) (c a : Option Phrase) (s : List ℕ) → is_lone_void (writing c (base.Tagged t name, p) a s) ≡ true → X
not_tagged t name p c a s e = absurd cc

-- `void` alone is that word
void_in : (b : Base × Phrase) (ss : List Lexed) → grammar.base_type ss b → (c a : Option Phrase) (s : List ℕ) → is_lone_void (writing c b a s) ≡ true → (n : ℕ) × spell.word "void" ss n
void_in b ss (inl d) c a s e =
    (d.first.value, subst (λ z. spell.word "void" z d.first.value) (sym (d.split ∙ ap (λ z. d.front ++ z) d.rest.0 ∙ append-nil d.front ∙ d.first.split ∙ ap (λ z. d.first.front ++ z) d.first.rest.0 ∙ append-nil d.first.front)) d.first.first)
void_in b ss (inr (inl d)) c a s e = other (subst (λ z. is_lone_void (writing c z a s) ≡ true) d.rest.1 e)
  where
    other : {X : Type 0} → is_lone_void (writing c (base.Float, d.value) a s) ≡ true → X
    other f = absurd cc
void_in b ss (inr (inr (inl d))) c a s e = other (subst (λ z. is_lone_void (writing c z a s) ≡ true) d.rest.1 e)
  where
    other : {X : Type 0} → is_lone_void (writing c (base.Double, d.value) a s) ≡ true → X
    other f = absurd cc
void_in b ss (inr (inr (inr (inl d)))) c a s e = other (subst (λ z. is_lone_void (writing c z a s) ≡ true) d.rest.1 e)
  where
    other : {X : Type 0} → is_lone_void (writing c (base.Integer d.value.0 true, d.value.1) a s) ≡ true → X
    other f = absurd cc
void_in b ss (inr (inr (inr (inr (inl d))))) c a s e = other d.rest.value (subst (λ z. is_lone_void (writing c z a s) ≡ true) d.rest.rest.1 e)
  where
    other : {X : Type 0} (i : Option (ℕ × Phrase)) → is_lone_void (writing c (signed_base d.value i) a s) ≡ true → X
    other None f = absurd cc
    other (Some i) f = absurd cc
void_in b ss (inr (inr (inr (inr (inr (inl d)))))) c a s e = not_tagged tag.Struct d.rest.value.name (record { token = d.rest.value.token; words = codes "struct" ∷ d.rest.value.name ∷ [] }) c a s (subst (λ z. is_lone_void (writing c z a s) ≡ true) d.rest.rest.1 e)
void_in b ss (inr (inr (inr (inr (inr (inr (inl d))))))) c a s e = not_tagged tag.Enum d.rest.value.name (record { token = d.rest.value.token; words = codes "enum" ∷ d.rest.value.name ∷ [] }) c a s (subst (λ z. is_lone_void (writing c z a s) ≡ true) d.rest.rest.1 e)
void_in b ss (inr (inr (inr (inr (inr (inr (inr (inl d)))))))) c a s e = not_tagged tag.Union d.rest.value.name (record { token = d.rest.value.token; words = codes "union" ∷ d.rest.value.name ∷ [] }) c a s (subst (λ z. is_lone_void (writing c z a s) ≡ true) d.rest.rest.1 e)
void_in b ss (inr (inr (inr (inr (inr (inr (inr (inr d)))))))) c a s e = other (subst (λ z. is_lone_void (writing c z a s) ≡ true) d.rest.1 e)
  where
    other : {X : Type 0} → is_lone_void (writing c (base.Bare d.value.name, record { token = d.value.token; words = d.value.name ∷ [] }) a s) ≡ true → X
    other f = absurd cc

and_false : {X : Type 0} (x : Bool) → x && false ≡ true → X
and_false true e = absurd cc
and_false false e = absurd cc

-- no `const` and no star
no_const_before : {X : Type 0} (p : Phrase) (b : Base × Phrase) (a : Option Phrase) (s : List ℕ) → is_lone_void (writing (Some p) b a s) ≡ true → X
no_const_before p b a s e = and_false _ e

no_const_after : {X : Type 0} (p : Phrase) (b : Base × Phrase) (s : List ℕ) → is_lone_void (writing None b (Some p) s) ≡ true → X
no_const_after p b s e = and_false _ e

no_stars : (b : Base × Phrase) (s : List ℕ) → is_lone_void (writing None b None s) ≡ true → length s ≡ 0
no_stars b s e = eqb-true (length s) 0 (both_true _ _ (both_true _ _ e).0).1

lone_void : (ss : List Lexed) (w : Written) → grammar.written ss w → is_lone_void w ≡ true → (n : ℕ) × spell.word "void" ss n
lone_void ss w d e = by_const d.value d.first (subst (λ z. is_lone_void z ≡ true) d.rest.rest.rest.rest.1 e)
  where
    by_star : (s : List ℕ) → spell.many (spell.mark "*") d.rest.rest.rest.front s → length s ≡ 0 → d.rest.rest.rest.front ≡ []
    by_star [] f l = f
    by_star (n ∷ ns) f l = absurd (omega arith)

    word_at : (front : List Lexed) → d.front ≡ [] → d.rest.rest.front ≡ [] → d.rest.rest.rest.front ≡ [] → (n : ℕ) × spell.word "void" d.rest.front n → (n : ℕ) × spell.word "void" ss n
    word_at front f g h x = (x.0, subst (λ z. spell.word "void" z x.0) (sym all) x.1)
      where
        all : ss ≡ d.rest.front
        all = d.split ∙ ap (λ z. z ++ d.back) f ∙ d.rest.split ∙ ap (λ z. d.rest.front ++ z) (d.rest.rest.split ∙ ap (λ z. z ++ d.rest.rest.back) g ∙ d.rest.rest.rest.split ∙ ap (λ z. z ++ d.rest.rest.rest.back) h ∙ d.rest.rest.rest.rest.0) ∙ append-nil d.rest.front

    by_after : (a : Option Phrase) → spell.optional (grammar.said "const") d.rest.rest.front a → d.front ≡ [] → is_lone_void (writing None d.rest.value a d.rest.rest.rest.value) ≡ true → (n : ℕ) × spell.word "void" ss n
    by_after (Some p) g f h = no_const_after p d.rest.value d.rest.rest.rest.value h
    by_after None g f h =
        word_at [] f g (by_star d.rest.rest.rest.value d.rest.rest.rest.first (no_stars d.rest.value d.rest.rest.rest.value h)) (void_in d.rest.value d.rest.front d.rest.first None None d.rest.rest.rest.value h)

    by_const : (c : Option Phrase) → spell.optional (grammar.said "const") d.front c → is_lone_void (writing c d.rest.value d.rest.rest.value d.rest.rest.rest.value) ≡ true → (n : ℕ) × spell.word "void" ss n
    by_const (Some p) f h = no_const_before p d.rest.value d.rest.rest.value d.rest.rest.rest.value h
    by_const None f h = by_after d.rest.rest.value d.rest.rest.first f h

forms : Production (List Declared)
forms = spell.◌<|>◌ (spell.pure []) (spell.◌<|>◌ attributed typed)

-- a first parameter and the others
separated_of : (ss : List Lexed) (r : List Declared) (a : Declared) (front back : List Lexed) → ss ≡ front ++ back → grammar.param front a → more_of a back r → grammar.params ss r
separated_of ss r a front back cut p m = inr (record { front = front; back = back; value = a; split = cut; first = p; rest = m })

no_attributes : (w : Written) (a : Declared) (front back : List Lexed) → grammar.written front w → as_declared w [] back a → grammar.param (front ++ back) a
no_attributes w a front back d n = record { front = []; back = front ++ back; value = None; split = refl; first = refl; rest = record { front = front; back = back; value = w; split = refl; first = d; rest = n } }

to_params : (ss : List Lexed) (r : List Declared) → forms ss r → grammar.params ss r
unfolding forms
to_params ss r (inl d) = inl (record { front = []; back = ss; value = None; split = refl; first = refl; rest = d })
to_params ss r (inr (inl d)) =
    separated_of ss r d.rest.value (d.front ++ d.rest.front) d.rest.back (d.split ∙ ap (λ z. d.front ++ z) d.rest.split ∙ sym (append_assoc d.front d.rest.front d.rest.back))
    (record { front = d.front; back = d.rest.front; value = Some d.value; split = refl; first = d.first; rest = d.rest.first }) d.rest.rest
to_params ss r (inr (inr d)) = by (is_lone_void d.value) refl d.rest
  where
    named : named_param d.value d.back r → grammar.params ss r
    named x = separated_of ss r x.value (d.front ++ x.front) x.back (d.split ∙ ap (λ z. d.front ++ z) x.split ∙ sym (append_assoc d.front x.front x.back))
        (no_attributes d.value x.value d.front x.front d.first x.first) x.rest

    by : (b : Bool) → is_lone_void d.value ≡ b → params_by b d.value d.back r → grammar.params ss r
    by false e x = named x
    by true e (inr x) = named x
    by true e (inl x) =
        let v = lone_void d.front d.value d.first e in
        inl (record { front = d.front; back = d.back; value = Some v.0; split = d.split; first = v.1; rest = x })

-- the type that is `void` alone
void_phrase : ℕ → Phrase
void_phrase n = record { token = n; words = codes "void" ∷ [] }

void_written : (n : ℕ) (ss : List Lexed) → spell.word "void" ss n → grammar.written ss (writing None (base.Void, record { token = n; words = codes "void" ∷ [] }) None [])
void_written n ss d = record {
  front = [];
  back = ss;
  value = None;
  split = refl;
  first = refl;
  rest = record {
    front = ss;
    back = [];
    value = (base.Void, record { token = n; words = codes "void" ∷ [] });
    split = sym (append-nil ss);
    first = inl (record {
      front = ss;
      back = [];
      value = record { token = n; words = codes "void" ∷ [] };
      split = sym (append-nil ss);
      first = record { front = ss; back = []; value = n; split = sym (append-nil ss); first = d; rest = (refl, refl) };
      rest = (refl, refl);
    });
    rest = record {
      front = [];
      back = [];
      value = None;
      split = refl;
      first = refl;
      rest = record { front = []; back = []; value = []; split = refl; first = refl; rest = (refl, refl) };
    };
  };
}

from_params : (ss : List Lexed) (r : List Declared) → grammar.params ss r → forms ss r
unfolding forms
from_params ss r (inl d) = by d.value d.first
  where
    by : (o : Option ℕ) → spell.optional (spell.word "void") d.front o → forms ss r
    by None f = inl (d.split ∙ ap (λ z. z ++ d.back) f ∙ d.rest.0, d.rest.1)
    by (Some n) f = inr (inr (record { front = d.front; back = d.back; value = writing None (base.Void, record { token = n; words = codes "void" ∷ [] }) None []; split = d.split; first = void_written n d.front f; rest = inl d.rest }))
from_params ss r (inr d) = by d.first.value d.first.first d.first.rest
  where
    cut : (front back : List Lexed) → d.front ≡ front ++ back → ss ≡ front ++ (back ++ d.back)
    cut front back e = d.split ∙ ap (λ z. z ++ d.back) e ∙ append_assoc front back d.back

    named : (w : Written) (back : List Lexed) → named_param w back r → (b : Bool) → params_by b w back r
    named w back x true = inr x
    named w back x false = x

    by : (o : Option (List Attribute)) → spell.optional grammar.attributes d.first.front o → grammar.declared (list_of o) d.first.back d.value → forms ss r
    by (Some attrs) f g = inr (inl (record {
      front = d.first.front;
      back = d.first.back ++ d.back;
      value = attrs;
      split = cut d.first.front d.first.back d.first.split;
      first = f;
      rest = record { front = d.first.back; back = d.back; value = d.value; split = refl; first = g; rest = d.rest };
    }))
    by None f g =
        let front_is : d.front ≡ g.front ++ g.back = d.first.split ∙ ap (λ z. z ++ d.first.back) f ∙ g.split in
        inr (inr (record {
          front = g.front;
          back = g.back ++ d.back;
          value = g.value;
          split = cut g.front g.back front_is;
          first = g.first;
          rest = named g.value (g.back ++ d.back) (record { front = g.back; back = d.back; value = d.value; split = refl; first = g.rest; rest = d.rest }) (is_lone_void g.value);
        }))

pub params_agree : Agrees grammar.params parse.params (at_mark ")")
unfolding forms
params_agree = agrees_by to_params from_params by_symbol
