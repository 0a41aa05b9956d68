-- The acts of blocks.
use Rattle.std.proofs.Common.{arith, ◌≡◌, ◌≤◌, ◌-◌, length, map, get_or, take, drop, ℕ, zero, suc, Bool, true, false, List, [], ◌∷◌, ◌++◌, Option, Some, None, refl, ap, sym, ◌∙◌, append_assoc, append-nil}
use Rattle.std.specs.Prelude.{◌==◌, filter, filter_map, if◌then◌else◌, option_and_then}
use Rattle.std.specs.List.{cons_option}
use Rattle.std.proofs.lemmas.List.Elements.{filter_map-append}
use Rattle.edl_interface.specs.declared.Interface.{Interface}
use Rattle.call_script.specs.declared.HostAct.{HostAct, Repeat as repeat_act}
use Rattle.call_script.specs.Line.{Line, Call, Raw, Poke, Peek, Repeat, Return, Status}
use Rattle.call_script.specs.Block.{PlacedLine, home}
use Rattle.call_script.specs.Standing.{is_repeat}
use Rattle.call_script.specs.Arguments.{number_of}
use Rattle.call_script.specs.Faults.{max_nesting}
use Rattle.call_script.specs.Meaning as meaning
use Rattle.script_blocks.specs.declared.lines.BlockLine.{BlockLine}
use Rattle.script_blocks.specs.Blocks.{HomeLine, home_line, kept_by, kept, is_of_block, block_lines, in_block, inside}
use Rattle.script_blocks.proofs.LineLaws.{one_more, own, other, parts}
use Rattle.script_blocks.specs.Acts.{act_of, acts_by, acts_to, act_there, acts_of, block_acts}

-- ---- the lines of a block of a script

-- what is given by the lines of blocks alone, is given by those that are kept
module _ {B : Type 0} (g : ℕ → Line → Option B) (no_other : (n : ℕ) (line : Line) → is_of_block line ≡ false
    → g n line ≡ None) where
  abbrev given_at : PlacedLine → Option B
  given_at l = option_and_then (g l.number) l.line

  abbrev given : HomeLine → Option B
  given l = g l.number l.line

  pub given_in_block : (n : ℕ) (script : List PlacedLine)
      → filter_map given_at (filter (λ l. home l == n) script) ≡ filter_map given (in_block n (block_lines script))
  unfolding block_lines in_block
  given_in_block n [] = refl
  given_in_block n (l ∷ ls) = go l.line refl (home l == n) refl (given_in_block n ls)
    where
      kept_lines : List HomeLine
      kept_lines = filter (λ k. k.home == n) (filter_map kept ls)

      there : List PlacedLine
      there = filter (λ k. home k == n) ls

      go : (o : Option Line) → l.line ≡ o → (t : Bool) → (home l == n) ≡ t
          → filter_map given_at there ≡ filter_map given kept_lines
          → filter_map given_at (if t then l ∷ there else there)
          ≡ filter_map given (filter (λ k. k.home == n) (cons_option (kept_by l.number (home l) o) (filter_map kept ls)))
      go None e true f h = rw e h
      go None e false f h = h
      go (Some line) e t f h = on (is_of_block line) refl t f
        where
          on : (s : Bool) → is_of_block line ≡ s → (t : Bool) → (home l == n) ≡ t
              → filter_map given_at (if t then l ∷ there else there)
              ≡ filter_map given (filter (λ k. k.home == n) (cons_option (if s
              then Some (record { number = l.number; home = home l; line = line }) else None) (filter_map kept ls)))
          on true d true f = rw (e, f) (ap (cons_option (g l.number line)) h)
          on true d false f = rw f h
          on false d true f = rw (e, no_other l.number line d) h
          on false d false f = h

-- ---- the acts of a block of a script

no-act : (i : Interface) (f : ℕ → List HostAct) (n : ℕ) (line : Line) → is_of_block line ≡ false
    → act_of i f n line ≡ None
no-act i f n (Call name args) e = absurd cc
no-act i f n (Raw ordinal address) e = absurd cc
no-act i f n (Poke place hex) e = absurd cc
no-act i f n (Peek place count) e = absurd cc
no-act i f n (Repeat times) e = absurd cc
no-act i f n (Return value) e = absurd cc
no-act i f n (Status status) e = absurd cc
no-act i f n line e = refl

module _ (i : Interface) (racing : Bool) (script : List PlacedLine) where
  same-act : (f g : ℕ → List HostAct) (n : ℕ) (line : Line) → f n ≡ g n
      → meaning.act_of i racing script f n line ≡ act_of i g n line
  same-act f g n (Call name args) e = refl
  same-act f g n (Raw ordinal address) e = refl
  same-act f g n (Poke place hex) e = refl
  same-act f g n (Peek place count) e = refl
  same-act f g n (Repeat times) e = ap (λ acts. Some (repeat_act (number_of times) acts)) e
  same-act f g n (Return value) e = refl
  same-act f g n (Status status) e = refl
  same-act f g n line e = refl

  same-acts : (f g : ℕ → List HostAct) → ((n : ℕ) → f n ≡ g n) → (ls : List PlacedLine)
      → meaning.acts_by i racing script f ls ≡ filter_map (λ l. option_and_then (act_of i g l.number) l.line) ls
  same-acts f g e [] = refl
  same-acts f g e (l ∷ ls) = go l.line refl (same-acts f g e ls)
    where
      go : (o : Option Line) → l.line ≡ o
          → meaning.acts_by i racing script f ls ≡ filter_map (λ l. option_and_then (act_of i g l.number) l.line) ls
          → meaning.acts_by i racing script f (l ∷ ls)
          ≡ filter_map (λ l. option_and_then (act_of i g l.number) l.line) (l ∷ ls)
      go None k h = rw k h
      go (Some line) k h =
          rw (k, same-act f g l.number line (e l.number)) (ap (cons_option (act_of i g l.number line)) h)

  by-block : (f g : ℕ → List HostAct) → ((n : ℕ) → f n ≡ g n) → (n : ℕ)
      → meaning.acts_by i racing script f (meaning.lines_in i racing script n)
      ≡ acts_by i g (in_block n (block_lines script))
  by-block f g e n =
      same-acts f g e (meaning.lines_in i racing script n) ∙ given_in_block (act_of i g) (no-act i g) n script

  -- one deeper by the block itself
  pub acts_to-is : (nesting n : ℕ)
      → meaning.acts_to i racing script nesting n ≡ acts_to i (block_lines script) (suc nesting) n
  unfolding acts_to
  acts_to-is zero n = by-block (λ m. []) (acts_to i (block_lines script) 0) (λ m. refl) n
  acts_to-is (suc nesting) n =
      by-block (meaning.acts_to i racing script nesting) (acts_to i (block_lines script) (suc nesting))
      (acts_to-is nesting) n

  pub acts_in-is : (n : ℕ) → meaning.acts_in i racing script n ≡ block_acts i (block_lines script) n
  unfolding block_acts
  acts_in-is n = acts_to-is max_nesting n

-- ---- line by line

module _ (i : Interface) (all : List HomeLine) where
  -- a repeat, and what is in it
  pub repeated : (depth n : ℕ) (around : ℕ) (times : _) (acts : List HostAct) (line : Line) → line ≡ Repeat times
      → acts ≡ acts_to i all depth n
      → Some (repeat_act (number_of times) acts)
      ≡ act_there i all depth (record { number = n; home = around; line = line })
  unfolding act_there
  repeated depth n around times acts line e f = rw (e, f) refl

  pub no_depth : (depth n : ℕ) → depth ≡ 0 → [] ≡ acts_to i all depth n
  unfolding acts_to
  no_depth depth n e = rw e refl

  acts_of-append : (depth : ℕ) (xs ys : List HomeLine)
      → acts_of i all depth (xs ++ ys) ≡ acts_of i all depth xs ++ acts_of i all depth ys
  unfolding acts_of
  acts_of-append depth xs ys = filter_map-append (λ l. act_of i (acts_to i all depth) l.number l.line) xs ys

  module _ (depth home : ℕ) where
    module _ (l : HomeLine) (rest : List HomeLine) where
      pub turn : home ≤ l.home → (old new : List HostAct)
          → new ≡ old ++ acts_of i all depth (in_block home (l ∷ []))
          → new ++ acts_of i all depth (inside home rest) ≡ old ++ acts_of i all depth (inside home (l ∷ rest))
      turn h old new e =
          ap (λ acts. acts ++ acts_of i all depth (inside home rest)) e
          ∙ append_assoc old (acts_of i all depth (in_block home (l ∷ []))) (acts_of i all depth (inside home rest))
          ∙ ap (λ acts. old ++ acts) (sym (acts_of-append depth (in_block home (l ∷ [])) (inside home rest)))
          ∙ ap (λ ls. old ++ acts_of i all depth ls) (sym (one_more home l rest h))

    pub own_act : (l : HomeLine) → l.home ≡ home → (old new : List HostAct) (act : Option HostAct)
        → act ≡ act_there i all depth l → new ≡ old ++ cons_option act []
        → new ≡ old ++ acts_of i all depth (in_block home (l ∷ []))
    unfolding acts_of act_there
    own_act l h old new act e f =
        f ∙ ap (λ o. old ++ cons_option o []) e ∙ ap (λ ls. old ++ acts_of i all depth ls) (sym (own home l [] h))

    pub other_act : (l : HomeLine) → (l.home ≡ home → ⊥) → (old : List HostAct)
        → old ≡ old ++ acts_of i all depth (in_block home (l ∷ []))
    unfolding acts_of
    other_act l h old = sym (ap (λ ls. old ++ acts_of i all depth ls) (other home l [] h) ∙ append-nil old)

    -- the acts of a whole block
    pub whole : (left lines : List HomeLine) (acts : List HostAct) (deeper : ℕ) → deeper ≡ suc depth
        → inside home left ≡ [] → in_block home all ≡ inside home lines
        → acts ++ acts_of i all depth (inside home left) ≡ acts_of i all depth (inside home lines)
        → acts ≡ acts_to i all deeper home
    unfolding acts_of acts_to
    whole left lines acts deeper d e f h =
        sym (ap (λ ls. acts ++ acts_of i all depth ls) e ∙ append-nil acts) ∙ h
        ∙ ap (acts_of i all depth) (sym f) ∙ sym (ap (λ k. acts_to i all k home) d)

    -- the same in a slice
    module _ (left : List BlockLine) (x : BlockLine) (long : 1 ≤ length left) (is : x ≡ get_or left 0 x) where
      pub acts_step : home ≤ x.home → (old new sum : List HostAct)
          → new ≡ old ++ acts_of i all depth (in_block home (home_line x ∷ []))
          → old ++ acts_of i all depth (inside home (map home_line left)) ≡ sum
          → new ++ acts_of i all depth (inside home (map home_line (take (length left - 1) (drop 1 left)))) ≡ sum
      acts_step here old new sum e h =
          turn (home_line x) (map home_line (take (length left - 1) (drop 1 left))) here old new e
          ∙ ap (λ ls. old ++ acts_of i all depth (inside home ls)) (sym (parts left x long is)) ∙ h
