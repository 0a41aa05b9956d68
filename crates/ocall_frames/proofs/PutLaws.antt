-- The buffers of a frame, as they are put one after another.
use Rattle.std.proofs.Common.{ℕ, zero, suc, ◌+◌, ◌<◌, ◌≤◌, ◌≡◌, ◌==◌, Bool, true, false, if◌then◌else◌, List, [], ◌∷◌, ◌++◌, length, drop, map, replicate, get_or, slice_get, Some, refl, ap, sym, ◌∙◌, subst, arith, rules, IsTrue}
use Rattle.std.specs.Prelude.{flat_map}
use Rattle.std.proofs.lemmas.List.{length-replicate}
use Rattle.sgx_base.specs.Ranges.{is_mapped}
use Rattle.edl_interface.specs.declared.Class.{Class}
use Rattle.edl_interface.specs.declared.Param.{Param}
use Rattle.edl_interface.specs.Parameters.{is_marshalled, is_in}
use Rattle.enclave_memory.specs.declared.Arg.{Arg}
use Rattle.enclave_memory.specs.declared.Arg.TheVariants.{Value, Bytes}
use Rattle.enclave_memory.specs.Memory.{Memory}
use Rattle.word_port.specs.declared.Side.TheVariants.{Enclave}
use Rattle.word_port.specs.Port.{PortState}
use Rattle.word_port.specs.Requests.{swap_of}
use Rattle.word_port.specs.Interaction.{Interaction, ret, ask, and_then}
use Rattle.word_port.specs.Accesses.{word_at, stores}
use Rattle.word_port.specs.Runs.{Leads, Makes, StopsFull}
use Rattle.word_port.proofs.Laws.{leads_on, leads_first, full_on, full_first}
use Rattle.ocall_frames.specs.Arguments.{has_place}
use Rattle.ocall_frames.specs.Contents.{IsContent, AreContents, buffers_with, shown}
use Rattle.ocall_frames.proofs.StructureLaws.{drop_at, nothing_left}
use Rattle.ocall_frames.proofs.ContentLaws.{IsNextContent, next_content}
use Rattle.std.proofs.lemmas.Option.{slice_get-get_or}
use Rattle.ocall_frames.specs.Frames.{Buffer, shown_content}

stores-append : (at : ℕ) (xs ys : List ℕ) → stores Enclave at (xs ++ ys) ≡ and_then (stores Enclave at xs) (λ _. stores Enclave (at + length xs) ys)
stores-append at [] ys = let z : at ≡ at + 0 = omega arith in ap (λ a. stores Enclave a ys) z
stores-append at (x ∷ xs) ys =
    let e : (at + 1) + length xs ≡ at + suc (length xs) = omega arith in
    ap (λ t. ask (swap_of Enclave (word_at at) x) (λ _. t))
    (stores-append (at + 1) xs ys ∙ ap (λ a. and_then (stores Enclave (at + 1) xs) (λ _. stores Enclave a ys)) e)

-- what the host is shown of a content is as long
pub shown_length : (class : Class) (content : List ℕ) → length (shown class content) ≡ length content
shown_length class content =
    let zeros : length {A = ℕ} (replicate (length content) 0) ≡ length content = length-replicate (length content) 0 in
    elim (is_in class) as (λ b. length (if b then content else replicate (length content) 0) ≡ length content) [ true ↦ refl | false ↦ zeros ]

pub shown_nothing : (class : Class) → shown class [] ≡ []
shown_nothing class =
    let zeros : List ℕ = replicate 0 0 in
    elim (is_in class) as (λ b. (if b then [] else zeros) ≡ []) [ true ↦ refl | false ↦ refl ]

-- what the host is shown of the next buffer and of the others
shown_first : (p : Param) (content : List ℕ) (next : ℕ) (more : List Buffer) (c : Bool) → (c ≡ false → content ≡ [])
    → flat_map shown_content (if c then record { param = p; address = if length content == 0 then 0 else next; content = content } ∷ more else more) ≡ shown p.class content ++ flat_map shown_content more
shown_first p content next more true h = refl
shown_first p content next more false h =
    ap (λ l. l ++ flat_map shown_content more) (sym (ap (λ l. shown p.class l) (h refl) ∙ shown_nothing p.class))

-- a content with bytes is that of what is marshalled
kind_of : (m : Memory) (class : Class) (arg : Arg) (content : List ℕ) → has_place arg ≡ is_marshalled class → IsContent m class arg content → is_marshalled class ≡ false → content ≡ []
kind_of m class (Value n) content kind is other = is
kind_of m class (Bytes b) content kind is other = cc

-- the next content is that of the next argument
pub record IsNextArg (m : Memory) (p : Param) (arg : Arg) (content : List ℕ) : Type 0 where
  pub is : IsContent m p.class arg content
  pub kind : has_place arg ≡ is_marshalled p.class

pub next_arg : (m : Memory) (ps : List Param) (args : List Arg) (contents : List (List ℕ)) (i : ℕ) (p : Param) (arg : Arg) (content : List ℕ) (rest : List (List ℕ)) → AreContents m ps args contents
    → slice_get ps i ≡ Some p → slice_get args i ≡ Some arg → drop i contents ≡ content ∷ rest → IsNextArg m p arg content
next_arg m [] args contents i p arg content rest h e f d = cc
next_arg m (q ∷ ps) [] contents i p arg content rest h e f d = cc
next_arg m (q ∷ ps) (a ∷ args) [] i p arg content rest h e f d = absurd h
next_arg m (q ∷ ps) (a ∷ args) (c ∷ contents) zero p arg content rest h e f d =
    let param : q ≡ p = cc in let same : a ≡ arg = cc in let these : c ≡ content = cc in
    subst (λ x. IsNextArg m p arg x) these (subst (λ x. IsNextArg m p x c) same (subst (λ x. IsNextArg m x a c) param (record { is = h.1; kind = h.0 })))
next_arg m (q ∷ ps) (a ∷ args) (c ∷ contents) (suc i) p arg content rest h e f d = next_arg m ps args contents i p arg content rest h.2 e f d

pub contents_count : (m : Memory) (ps : List Param) (args : List Arg) (contents : List (List ℕ)) → AreContents m ps args contents → (length ps ≡ length args) × (length args ≡ length contents)
contents_count m [] [] [] h = (refl, refl)
contents_count m [] [] (c ∷ contents) h = absurd h
contents_count m [] (a ∷ args) contents h = absurd h
contents_count m (p ∷ ps) [] contents h = absurd h
contents_count m (p ∷ ps) (a ∷ args) [] h = absurd h
contents_count m (p ∷ ps) (a ∷ args) (c ∷ contents) h =
    let r : (length ps ≡ length args) × (length args ≡ length contents) = contents_count m ps args contents h.2 in
    (ap suc r.0, ap suc r.1)

module _ (m : Memory) (p : Param) (ps : List Param) (arg : Arg) (content : List ℕ) (rest : List (List ℕ)) (next : ℕ) (is : IsNextArg m p arg content) where
  abbrev pub others : List ℕ
  others = flat_map shown_content (buffers_with (next + length content) ps rest)

  shown_is : flat_map shown_content (buffers_with next (p ∷ ps) (content ∷ rest)) ≡ shown p.class content ++ others
  shown_is = shown_first p content next (buffers_with (next + length content) ps rest) (is_marshalled p.class) (kind_of m p.class arg content is.kind is.is)

  abbrev pub left_to_put : Interaction (Unit {0})
  left_to_put = stores Enclave next (flat_map shown_content (buffers_with next (p ∷ ps) (content ∷ rest)))

  left_is : left_to_put ≡ and_then (stores Enclave next (shown p.class content)) (λ _. stores Enclave (next + length content) others)
  left_is =
      ap (λ l. stores Enclave next l) shown_is ∙ stores-append next (shown p.class content) others
      ∙ ap (λ n. and_then (stores Enclave next (shown p.class content)) (λ _. stores Enclave (next + n) others)) (shown_length p.class content)

  -- the next buffer is put
  pub put_more : (t : Interaction (Unit {0})) (old mid new : PortState) → Leads t old mid left_to_put → Makes (stores Enclave next (shown p.class content)) mid new tt
      → Leads t old new (stores Enclave (next + length content) others)
  put_more t old mid new so_far made =
      leads_on t left_to_put (stores Enclave (next + length content) others) old mid new so_far
      (subst (λ (u : Interaction (Unit {0})). Leads u mid new (stores Enclave (next + length content) others)) (sym left_is)
      (leads_first (stores Enclave next (shown p.class content)) (ret tt) (λ _. stores Enclave (next + length content) others) mid new made))

  -- the log is full while it is put
  pub put_full : (t : Interaction (Unit {0})) (old mid new : PortState) → Leads t old mid left_to_put → StopsFull (stores Enclave next (shown p.class content)) mid new → StopsFull t old new
  put_full t old mid new so_far stops =
      full_on t left_to_put old mid new so_far
      (subst (λ (u : Interaction (Unit {0})). StopsFull u mid new) (sym left_is)
      (full_first (stores Enclave next (shown p.class content)) (λ _. stores Enclave (next + length content) others) mid new stops))

-- a part of a range of host memory is one
pub part_mapped : (host from whole at n : ℕ) → IsTrue (is_mapped host from whole) → from ≤ at → at + n ≤ from + whole → IsTrue (is_mapped host at n)
part_mapped host from whole at n h low high = search rules

-- a run keeps the size of host memory
pub leads_host : {A : Type 0} (t rest : Interaction A) (old new : PortState) → Leads t old new rest → new.host ≡ old.host
leads_host t rest old new p = ap (λ (q : PortState). q.host) p.grown

module _ (m : Memory) (ps : List Param) (args : List Arg) (contents : List (List ℕ)) (lengths : List ℕ) (i next : ℕ) (p : Param)
    (are : AreContents m ps args contents) (lengths_are : lengths ≡ map length contents) (counts : length lengths ≡ length args) (below : i < length args) (at : slice_get ps i ≡ Some p) where
  pub content_next : IsNextContent contents lengths i
  content_next = next_content contents lengths i lengths_are (subst (λ n. i < n) (sym counts) below)

  pub arg_next : IsNextArg m p (get_or args i (Value 0)) content_next.content
  arg_next = next_arg m ps args contents i p (get_or args i (Value 0)) content_next.content (drop (i + 1) contents) are at (slice_get-get_or args i (Value 0) below) content_next.left

  module _ (whole : Interaction (Unit {0})) (old mid new : PortState)
      (so_far : Leads whole old mid (stores Enclave next (flat_map shown_content (buffers_with next (drop i ps) (drop i contents))))) where
    leads_here : Leads whole old mid (stores Enclave next (flat_map shown_content (buffers_with next (p ∷ drop (i + 1) ps) (content_next.content ∷ drop (i + 1) contents))))
    leads_here =
        subst (λ l. Leads whole old mid (stores Enclave next (flat_map shown_content (buffers_with next l (content_next.content ∷ drop (i + 1) contents))))) (drop_at ps i p at)
        (subst (λ l. Leads whole old mid (stores Enclave next (flat_map shown_content (buffers_with next (drop i ps) l)))) content_next.left so_far)

    pub put_step : ((content : List ℕ) → IsContent m p.class (get_or args i (Value 0)) content → get_or lengths i 0 ≡ length content → Makes (stores Enclave next (shown p.class content)) mid new tt)
        → Leads whole old new (stores Enclave (next + get_or lengths i 0) (flat_map shown_content (buffers_with (next + get_or lengths i 0) (drop (i + 1) ps) (drop (i + 1) contents))))
    put_step made =
        subst (λ n. Leads whole old new (stores Enclave (next + n) (flat_map shown_content (buffers_with (next + n) (drop (i + 1) ps) (drop (i + 1) contents))))) (sym content_next.count)
        (put_more m p (drop (i + 1) ps) (get_or args i (Value 0)) content_next.content (drop (i + 1) contents) next arg_next whole old mid new leads_here (made content_next.content arg_next.is content_next.count))

    pub put_stops : ((content : List ℕ) → IsContent m p.class (get_or args i (Value 0)) content → get_or lengths i 0 ≡ length content → StopsFull (stores Enclave next (shown p.class content)) mid new)
        → StopsFull whole old new
    put_stops stops =
        put_full m p (drop (i + 1) ps) (get_or args i (Value 0)) content_next.content (drop (i + 1) contents) next arg_next whole old mid new leads_here (stops content_next.content arg_next.is content_next.count)

-- all buffers are put
pub put_all : (whole : Interaction (Unit {0})) (ps : List Param) (contents : List (List ℕ)) (i next : ℕ) (old now : PortState) → length ps ≤ i
    → Leads whole old now (stores Enclave next (flat_map shown_content (buffers_with next (drop i ps) (drop i contents)))) → Makes whole old now tt
put_all whole ps contents i next old now h so_far =
    subst (λ l. Leads whole old now (stores Enclave next (flat_map shown_content (buffers_with next l (drop i contents))))) (nothing_left ps i h) so_far
