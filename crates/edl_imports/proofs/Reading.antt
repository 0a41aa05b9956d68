-- One file: how its faults are told.
use Rattle.std.proofs.Common.{ℕ, zero, suc, ◌≡◌, ◌⊎◌, inl, inr, ◌-◌, ◌≤◌, Bool, false, List, [], ◌∷◌, length, arith, Result, Ok, Err, refl, sym, ap, ◌∙◌, subst}
use Rattle.sgx_base.specs.Outcome.{OrMemory}
use Rattle.edl_lexer.specs.declared.Token.{Token}
use Rattle.edl_lexer.specs.declared.LexFault.{LexFault}
use Rattle.edl_lexer.specs.declared.LexFault.TheVariants as lexical
use Rattle.edl_lexer.specs.Division.{HasNoTokens}
use Rattle.edl_lexer.specs.FirstFault.{HasLexFault}
use Rattle.edl_lexer.specs.declared.place.Place.{Place}
use Rattle.edl_lexer.specs.declared.scan.Flaw.TheVariants.{TooManyTokens}
use Rattle.edl_lexer.specs.declared.scan.Lexeme.{Lexeme}
use Rattle.edl_lexer.specs.declared.scan.Lexeme.TheVariants.{Gap, Piece, No}
use Rattle.edl_lexer.specs.Lexemes.{lexeme_after}
use Rattle.edl_lexer.specs.Lexing.{lexing, tokens_from, max_tokens, mark_len, opening, step, token, is_number, fault_of, with_token}
use Rattle.edl_lexer.proofs.Divided.{tokens_divided, fault_found, one_fault}
use Rattle.edl_grammar.specs.declared.EdlFile.{EdlFile}
use Rattle.edl_grammar.specs.declared.ParseFault.{ParseFault}
use Rattle.edl_grammar.specs.Parser.{parsing}
use Rattle.edl_imports.specs.declared.faults.ImportFault.{ImportFault}
use Rattle.edl_imports.specs.declared.faults.ImportCause.TheVariants as causes
use Rattle.edl_imports.specs.declared.faults.Stop.{Stop}
use Rattle.edl_imports.specs.declared.faults.Stop.TheVariants as stops
use Rattle.edl_imports.specs.declared.search.NewFile.{NewFile}
use Rattle.edl_imports.specs.Gathering.{read_tree, read_tokens, read_source}
use Rattle.edl_imports.specs.Causes.{IsStopOf}
use Rattle.edl_imports.proofs.Steps.{IsPlain, ArePlain}

-- a file has as few tokens as are allowed
module _ (file : ℕ) where
  by_piece : (room : ℕ) (t : Token) (r : Result (List Token) LexFault) (tokens : List Token) → ((ts : List Token) → r ≡ Ok ts → length ts ≤ room) → with_token t r ≡ Ok tokens → length tokens ≤ suc room
  by_piece room t (Err e) tokens rest h = absurd cc
  by_piece room t (Ok ts) tokens rest h = let is : t ∷ ts ≡ tokens = cc in let l = rest ts refl in omega (arith, ap length is)

  by_lexeme : (room : ℕ) (after_number : Bool) (at : Place) (b : ℕ) (bytes : List ℕ) (tokens : List Token) → ((room k : ℕ) (after_number : Bool) (at : Place) (ts : List Token) → tokens_from file room k after_number at bytes ≡ Ok ts → length ts ≤ room)
      → (l : Lexeme) → lexeme_after after_number b bytes ≡ l → tokens_from file room 0 after_number at (b ∷ bytes) ≡ Ok tokens → length tokens ≤ room
  by_lexeme room after_number at b bytes tokens rest (Gap n) e h =
      let turn : tokens_from file room 0 after_number at (b ∷ bytes) ≡ tokens_from file room (n - 1) false (step at b) bytes = rw (tokens_from, e) refl in
      rest room (n - 1) false (step at b) tokens (sym turn ∙ h)
  by_lexeme zero after_number at b bytes tokens rest (Piece kind n) e h =
      let turn : tokens_from file 0 0 after_number at (b ∷ bytes) ≡ Err (fault_of file at TooManyTokens) = rw (tokens_from, e) refl in
      absurd cc
  by_lexeme (suc room) after_number at b bytes tokens rest (Piece kind n) e h =
      let turn : tokens_from file (suc room) 0 after_number at (b ∷ bytes) ≡ with_token (token kind n at) (tokens_from file room (n - 1) (is_number kind) (step at b) bytes) = rw (tokens_from, e) refl in
      by_piece room (token kind n at) (tokens_from file room (n - 1) (is_number kind) (step at b) bytes) tokens (rest room (n - 1) (is_number kind) (step at b)) (sym turn ∙ h)
  by_lexeme room after_number at b bytes tokens rest (No flaw) e h =
      let turn : tokens_from file room 0 after_number at (b ∷ bytes) ≡ Err (fault_of file at flaw) = rw (tokens_from, e) refl in
      absurd cc

  few : (room k : ℕ) (after_number : Bool) (at : Place) (bytes : List ℕ) (tokens : List Token) → tokens_from file room k after_number at bytes ≡ Ok tokens → length tokens ≤ room
  few room zero after_number at [] tokens h = let is : [] ≡ tokens = cc in omega (arith, ap length is)
  few room (suc k) after_number at [] tokens h = let is : [] ≡ tokens = cc in omega (arith, ap length is)
  few room (suc k) after_number at (b ∷ bytes) tokens h = few room k after_number (step at b) bytes tokens h
  few room zero after_number at (b ∷ bytes) tokens h =
      by_lexeme room after_number at b bytes tokens (λ r k n a ts e. few r k n a bytes ts e) (lexeme_after after_number b bytes) refl h

-- the fault of a file's bytes is the one that is computed
lexing_err : (file : ℕ) (bytes : List ℕ) (e : LexFault) → HasLexFault file bytes e → OrMemory lexical.Memory (λ _. HasNoTokens bytes) e → (e ≡ lexical.Memory) ⊎ (lexing file bytes ≡ Err e)
lexing_err file bytes e h (inl m) = inl m
lexing_err file bytes e h (inr none) = inr (by (lexing file bytes) refl)
  where
    by : (r : Result (List Token) LexFault) → lexing file bytes ≡ r → r ≡ Err e
    by (Ok tokens) is =
        let d = tokens_divided file bytes tokens is in
        let l = few file max_tokens (mark_len bytes) false opening bytes tokens is in
        let more = none d.lexemes d.division in
        absurd (omega (arith, ap length d.same))
    by (Err x) is = ap (λ (z : LexFault). Err z) (one_fault file bytes x e (fault_found file bytes x is) h)

stops_at : (number : ℕ) (f : NewFile) (e : LexFault) (stop : Stop) → OrMemory lexical.Memory (HasLexFault number f.bytes) e → OrMemory lexical.Memory (λ _. HasNoTokens f.bytes) e
    → (e ≡ lexical.Memory → stop ≡ stops.Memory) → OrMemory stops.Memory (λ s. s ≡ stops.Fault (record { name = f.name; cause = causes.Lex e })) stop
    → IsStopOf (read_source number f) stop
stops_at number f e stop h none memory told = by h
  where
    nothing : stop ≡ stops.Memory → IsStopOf (read_source number f) stop
    nothing m = subst (IsStopOf (read_source number f)) (sym m) tt

    fault : lexing number f.bytes ≡ Err e → OrMemory stops.Memory (λ s. s ≡ stops.Fault (record { name = f.name; cause = causes.Lex e })) stop → IsStopOf (read_source number f) stop
    fault l (inl m) = nothing m
    fault l (inr is) = subst (IsStopOf (read_source number f)) (sym is) (ap (read_tokens number f) l)

    either : (e ≡ lexical.Memory) ⊎ (lexing number f.bytes ≡ Err e) → IsStopOf (read_source number f) stop
    either (inl m) = nothing (memory m)
    either (inr l) = fault l told

    by : OrMemory lexical.Memory (HasLexFault number f.bytes) e → IsStopOf (read_source number f) stop
    by (inl m) = nothing (memory m)
    by (inr found) = either (lexing_err number f.bytes e found none)

pub lexing_stops : (number : ℕ) (f : NewFile) (name bytes : List ℕ) (e : LexFault) (stop : Stop) → name ≡ f.name → bytes ≡ f.bytes
    → OrMemory lexical.Memory (HasLexFault number bytes) e → OrMemory lexical.Memory (λ _. HasNoTokens bytes) e
    → (e ≡ lexical.Memory → stop ≡ stops.Memory) → OrMemory stops.Memory (λ s. s ≡ stops.Fault (record { name = name; cause = causes.Lex e })) stop
    → IsStopOf (read_source number f) stop
lexing_stops number f name bytes e stop n b h none memory told =
    stops_at number f e stop (subst (λ (z : List ℕ). OrMemory lexical.Memory (HasLexFault number z) e) b h) (subst (λ (z : List ℕ). OrMemory lexical.Memory (λ _. HasNoTokens z) e) b none) memory
    (subst (λ (z : List ℕ). OrMemory stops.Memory (λ s. s ≡ stops.Fault (record { name = z; cause = causes.Lex e })) stop) n told)

pub read_plain : (number : ℕ) (f : NewFile) → ArePlain (read_source number f)
read_plain number f e = by (lexing number f.bytes)
  where
    by_tree : (tokens : List Token) (r : Result EdlFile ParseFault) → read_tree f.name tokens r ≡ Err e → IsPlain e.cause
    by_tree tokens (Ok tree) h = absurd cc
    by_tree tokens (Err x) h = let same : record { name = f.name; cause = causes.Parse x } ≡ e = cc in subst (λ (z : ImportFault). IsPlain z.cause) same tt

    by : (r : Result (List Token) LexFault) → read_tokens number f r ≡ Err e → IsPlain e.cause
    by (Ok tokens) h = by_tree tokens (parsing number f.bytes tokens) h
    by (Err x) h = let same : record { name = f.name; cause = causes.Lex x } ≡ e = cc in subst (λ (z : ImportFault). IsPlain z.cause) same tt
