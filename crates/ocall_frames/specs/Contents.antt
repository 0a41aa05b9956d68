-- What goes into the buffers of a frame: a list of bytes for each parameter, empty where it has no buffer.
use Rattle.std.specs.Prelude.{◌≡◌, ℕ, ◌+◌, ◌≤◌, ◌==◌, ◌||◌, true, if◌then◌else◌, List, [], ◌∷◌, length, map, take, replicate, Option, Some, None, option_map, option_and_then, fold, flat_map, ◌++◌}
use Rattle.sgx_base.specs.Bytes.{low_bytes, with_bytes_at}
use Rattle.edl_interface.specs.declared.Class.{Class}
use Rattle.edl_interface.specs.declared.Param.{Param}
use Rattle.edl_interface.specs.declared.Function.{Function}
use Rattle.edl_interface.specs.Parameters.{is_marshalled, is_in, is_text, unit_of}
use Rattle.enclave_memory.specs.declared.Block.{Block}
use Rattle.enclave_memory.specs.declared.Arg.{Arg}
use Rattle.enclave_memory.specs.declared.Arg.TheVariants.{Value, Bytes}
use Rattle.enclave_memory.specs.Arguments.{Argument, number, bytes}
use Rattle.enclave_memory.specs.Memory.{Memory, IsBlock, IsLive}
use Rattle.ocall_frames.specs.Arguments.{has_place}
use Rattle.ocall_frames.specs.Frames.{argument_length, has_no_length, exceeds_block, buffer_bytes, Buffer, shown_content}

-- an argument with the bytes of its block
abbrev pub IsArgument : Memory → Arg → Argument → Type 0
IsArgument m (Value n) (number k) = k ≡ n
IsArgument m (Bytes None) (bytes None) = Unit {0}
IsArgument m (Bytes (Some b)) (bytes (Some these)) = (place : ℕ) × IsBlock m b place these
IsArgument m _ _ = ⊥

-- the arguments with the bytes of their blocks
abbrev pub AreArguments : Memory → List Arg → List Argument → Type 0
AreArguments m [] [] = Unit {0}
AreArguments m (a ∷ args) (x ∷ arguments) = IsArgument m a x × AreArguments m args arguments
AreArguments m _ _ = ⊥

-- the block of an argument is a live one, where it has any
abbrev pub IsLiveArgument : Memory → Arg → Type 0
IsLiveArgument m (Bytes (Some b)) = IsLive m b
IsLiveArgument m _ = Unit {0}

-- the bytes of a parameter's argument that go into its buffer
abbrev pub content_of : Function → List ℕ → Param × Argument → List ℕ
content_of f structure (p, a) = buffer_bytes (argument_length f structure p a) a

-- those of each parameter
abbrev pub contents_of : Function → List ℕ → List (Param × Argument) → List (List ℕ)
contents_of f structure pairs = map (content_of f structure) pairs

-- how many bytes an argument has in its buffer, where the OCALL is not refused for it
abbrev pub measured_argument : Function → List ℕ → Param × Argument → Option ℕ
measured_argument f structure (p, a) =
    if has_no_length (argument_length f structure p a) || exceeds_block (argument_length f structure p a) a then None
    else Some (length (buffer_bytes (argument_length f structure p a) a))

-- the same of each argument, where the OCALL is not refused for any
abbrev pub measured : Function → List ℕ → List (Param × Argument) → Option (List ℕ)
measured f structure [] = Some []
measured f structure (x ∷ pairs) = option_and_then (λ n. option_map (λ ns. n ∷ ns) (measured f structure pairs))
    (measured_argument f structure x)

-- a length, where it is not refused for being missing or too large
abbrev pub fitting_length : Option ℕ → Option ℕ
fitting_length n = if has_no_length n then None else n

-- these are the first bytes of a live block, and a whole unit at least where it is a string
pub record IsPart (m : Memory) (class : Class) (b : Block) (content : List ℕ) : Type 0 where
  pub place : ℕ
  pub block : List ℕ
  pub is_block : IsBlock m b place block
  pub content_is : content ≡ take (length content) block
  pub within : length content ≤ length block
  pub unit : is_text class ≡ true → unit_of class ≤ length content

-- the content of an argument: a part of its block, and nothing of a number or null
abbrev pub IsContent : Memory → Class → Arg → List ℕ → Type 0
IsContent m class (Bytes (Some b)) content = IsPart m class b content
IsContent m class _ content = content ≡ []

-- the contents of arguments of these parameters' kinds
abbrev pub AreContents : Memory → List Param → List Arg → List (List ℕ) → Type 0
AreContents m [] [] [] = Unit {0}
AreContents m (p ∷ params) (a ∷ args) (content ∷ contents) = (has_place a ≡ is_marshalled p.class)
    × IsContent m p.class a content × AreContents m params args contents
AreContents m _ _ _ = ⊥

-- the buffers of these contents, from an address on
abbrev pub buffers_with : ℕ → List Param → List (List ℕ) → List Buffer
buffers_with next (p ∷ params) (content ∷ contents) =
    let more = buffers_with (next + length content) params contents in
    if is_marshalled p.class then record {
      param = p;
      address = if length content == 0 then 0 else next;
      content =
          content;
    } ∷ more else more
buffers_with next _ _ = []

-- a structure once the addresses of these buffers are written too
abbrev pub addressed : List ℕ → List Buffer → List ℕ
addressed structure buffers = fold (λ s b. with_bytes_at s b.param.offset (low_bytes 8 b.address)) structure buffers

-- the bytes of a frame at this address: a structure with its numbers and the addresses of these buffers, and what the
-- host is shown of them
abbrev pub framed : ℕ → Function → List ℕ → List (List ℕ) → List ℕ
framed at f structure contents =
    addressed structure (buffers_with (at + f.frame_size) f.params contents) ++ flat_map shown_content (buffers_with
    (at + f.frame_size) f.params contents)

-- what the host is shown of a content
abbrev pub shown : Class → List ℕ → List ℕ
shown class content = if is_in class then content else replicate (length content) 0
