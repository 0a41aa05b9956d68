-- What the instructions of an OCALL's proxy do: each over where the proxy stands, and a list one after another.
use Rattle.std.specs.Prelude.{ℕ, ◌≡◌, ◌+◌, ◌==◌, ◌&&◌, not, Bool, true, false, if◌then◌else◌, List, [], ◌∷◌, ◌++◌, length, map, replicate, zip, fold, flat_map, Option, Some, None, slice_get, slice_set, Result, Ok, Err}
use Rattle.sgx_base.specs.Bytes.{low_bytes, with_bytes_at}
use Rattle.sgx_base.specs.declared.Status.{Status}
use Rattle.sgx_base.specs.declared.TheConstants.Status.{SUCCESS, UNEXPECTED, INVALID_PARAMETER}
use Rattle.edl_interface.specs.declared.Param.{Param}
use Rattle.edl_interface.specs.declared.Function.{Function}
use Rattle.edl_interface.specs.Parameters.{is_marshalled, return_size}
use Rattle.word_port.specs.declared.Side.TheVariants.{Enclave}
use Rattle.word_port.specs.Interaction.{Interaction, ret, here, and_then, map_value}
use Rattle.word_port.specs.Accesses.{loads, stores}
use Rattle.enclave_memory.specs.Arguments.{Argument, number, bytes}
use Rattle.ocall_frames.specs.Stack.{frame_below}
use Rattle.ocall_frames.specs.Frames.{numbers_structure, with_number, argument_length, has_no_length, exceeds_block, buffer_bytes, buffers_of, Buffer, return_value}
use Rattle.call_report.specs.declared.Way.TheVariants.{Ordinary}
use Rattle.call_machine.specs.declared.Machine.{Machine}
use Rattle.call_machine.specs.Context.{Context}
use Rattle.call_machine.specs.Result.{is_success, and_then_ok}
use Rattle.call_machine.specs.Ocall.{Handlers, HostSide, OcallDone, host_run, handler_context}
use Rattle.bridge_program.specs.declared.Instr.{Instr}
use Rattle.bridge_program.specs.declared.Instr.TheVariants.{OBegin, OLength, OWithin, OTotal, OAdd, OTake, OField, OBuffer, OCopy, OEnter, OReturn, OBack}
use Rattle.bridge_laws.specs.Meaning.{place_of}

-- where a proxy stands: the size of its frame so far, its address, that of the next buffer, the marshalling structure, the buffers of the marshalled parameters so far and what they hold; once the host has run, what it did, where the answer begins, the return, and what came back for each buffer
pub record ProxyState : Type 0 where
  pub size : ℕ
  pub frame : ℕ
  pub next : ℕ
  pub structure : List ℕ
  pub buffers : List Buffer
  pub shown : List (List ℕ)
  pub host : HostSide
  pub turn : Option ℕ
  pub value : ℕ
  pub loaded : List (Option (List ℕ))

-- what is done by an instruction: a new state, or a refusal
abbrev pub ProxyDoing : Type 0
ProxyDoing = Interaction (Result ProxyState Status)

-- what is done with a parameter and its argument; nothing where there is none of this number
abbrev pub with_argument : Option (Param × Argument) → ProxyState → (Param → Argument → ProxyState) → ProxyState
with_argument None s next = s
with_argument (Some (p, a)) s next = next p a

-- whether a parameter and its argument pass the test; there may be none
abbrev pub argument_is : Option (Param × Argument) → (Param → Argument → Bool) → Bool → Bool
argument_is None test otherwise = otherwise
argument_is (Some (p, a)) test otherwise = test p a

-- the length of an argument's block, by the numbers of the other arguments
abbrev pub length_of : Function → List Argument → Param → Argument → Option ℕ
length_of f arguments p a = argument_length f (numbers_structure f arguments) p a

-- the bytes of an argument's block that go into its buffer
abbrev pub content_of : Function → List Argument → Param → Argument → List ℕ
content_of f arguments p a = buffer_bytes (length_of f arguments p a) a

-- OTake: the frame's address and its zeros, where it fits the host stack
abbrev pub taken : Function → Option ℕ → ProxyState → Result ProxyState Status
taken f None s = Err UNEXPECTED
taken f (Some address) s = Ok (record s { frame = address; next = address + f.frame_size; structure = replicate f.frame_size 0 })

-- OBuffer: the next buffer, and its address in the structure, 0 where it has no bytes; it holds zeros
abbrev pub with_buffer : Function → List Argument → ProxyState → Param → Argument → ProxyState
with_buffer f arguments s p a =
    let content = content_of f arguments p a in
    let address = if length content == 0 then 0 else s.next in
    record s {
      next = s.next + length content;
      structure = with_bytes_at s.structure p.offset (low_bytes 8 address);
      buffers = s.buffers ++ record { param = p; address = address; content = content } ∷ [];
      shown = s.shown ++ replicate (length content) 0 ∷ [];
    }

-- OEnter: the frame is put, the host runs, and its answer begins where its status is SUCCESS
abbrev pub begun_answer : ProxyState → HostSide → ProxyDoing
begun_answer s host =
    if is_success host.status
    then here (λ turn. ret (Ok (record s { host = host; turn = Some turn; loaded = map (λ b. None) s.buffers })))
    else ret (Ok (record s { host = host }))

-- OBack: the bytes of a buffer that has any come back
abbrev pub loaded_back : ℕ → Option Buffer → ProxyState → ProxyDoing
loaded_back place None s = ret (Ok s)
loaded_back place (Some b) s =
    if is_success s.host.status && not (length b.content == 0)
    then map_value (λ these. Ok (record s { loaded = slice_set s.loaded place (Some these) })) (loads Enclave b.address (length b.content))
    else ret (Ok s)

-- what an instruction does in the proxy of an OCALL of this function, with these arguments
abbrev pub proxy_means : Machine → Handlers → Context → ℕ → List Argument → Function → Instr → ProxyState → ProxyDoing
proxy_means m handlers cx ordinal arguments f OBegin s = ret (Ok s)
proxy_means m handlers cx ordinal arguments f (OLength n) s =
    ret (if argument_is (slice_get (zip f.params arguments) n) (λ p a. has_no_length (length_of f arguments p a)) false then Err INVALID_PARAMETER else Ok s)
proxy_means m handlers cx ordinal arguments f (OWithin n) s =
    ret (if argument_is (slice_get (zip f.params arguments) n) (λ p a. exceeds_block (length_of f arguments p a) a) false then Err INVALID_PARAMETER else Ok s)
proxy_means m handlers cx ordinal arguments f OTotal s = ret (Ok (record s { size = f.frame_size }))
proxy_means m handlers cx ordinal arguments f (OAdd n) s =
    ret (Ok (with_argument (slice_get (zip f.params arguments) n) s (λ p a. record s { size = s.size + length (content_of f arguments p a) })))
proxy_means m handlers cx ordinal arguments f OTake s = ret (taken f (frame_below cx.base cx.top s.size) s)
proxy_means m handlers cx ordinal arguments f (OField n) s =
    ret (Ok (with_argument (slice_get (zip f.params arguments) n) s (λ p a. record s { structure = with_number p s.structure a })))
proxy_means m handlers cx ordinal arguments f (OBuffer n) s = ret (Ok (with_argument (slice_get (zip f.params arguments) n) s (with_buffer f arguments s)))
proxy_means m handlers cx ordinal arguments f (OCopy n) s =
    ret (Ok (with_argument (slice_get (zip f.params arguments) n) s (λ p a. record s { shown = slice_set s.shown (place_of n f.params) (content_of f arguments p a) })))
proxy_means m handlers cx ordinal arguments f OEnter s =
    and_then (stores Enclave s.frame (s.structure ++ flat_map (λ bytes. bytes) s.shown)) (λ stored.
    and_then (host_run m handlers (handler_context cx ordinal f s.frame) ordinal f s.frame) (begun_answer s))
proxy_means m handlers cx ordinal arguments f OReturn s =
    if is_success s.host.status
    then map_value (λ bytes. Ok (record s { value = return_value f bytes })) (loads Enclave s.frame (return_size f))
    else ret (Ok s)
proxy_means m handlers cx ordinal arguments f (OBack n) s = loaded_back (place_of n f.params) (slice_get s.buffers (place_of n f.params)) s
proxy_means m handlers cx ordinal arguments f _ s = ret (Ok s)

-- a list does what its instructions do, one after another, up to a refusal
abbrev pub proxy_list_means : Machine → Handlers → Context → ℕ → List Argument → Function → List Instr → ProxyState → ProxyDoing
proxy_list_means m handlers cx ordinal arguments f [] s = ret (Ok s)
proxy_list_means m handlers cx ordinal arguments f (instr ∷ rest) s =
    and_then_ok (proxy_means m handlers cx ordinal arguments f instr s) (proxy_list_means m handlers cx ordinal arguments f rest)

-- where a proxy begins
abbrev pub first_proxy : ProxyState
first_proxy = record {
  size = 0;
  frame = 0;
  next = 0;
  structure = [];
  buffers = [];
  shown = [];
  host = record { way = Ordinary; status = SUCCESS; records = [] };
  turn = None;
  value = 0;
  loaded = [];
}

-- the structure once the fields of these parameters are written in order: a number, or the address of a buffer
abbrev pub laid : Function → List Argument → ℕ → List ℕ → List (Param × Argument) → List ℕ
laid f arguments next structure [] = structure
laid f arguments next structure ((p, a) ∷ rest) =
    if is_marshalled p.class
    then laid f arguments (next + length (content_of f arguments p a)) (with_bytes_at structure p.offset (low_bytes 8 (if length (content_of f arguments p a) == 0 then 0 else next))) rest
    else laid f arguments next (with_number p structure a) rest

-- the fields written in order of the parameters are what they are where all numbers are written before all addresses, as in the frame's definition
abbrev pub AreFieldsApart : Function → List Argument → Type 0
AreFieldsApart f arguments = (address : ℕ) → laid f arguments (address + f.frame_size) (replicate f.frame_size 0) (zip f.params arguments)
    ≡ fold (λ s b. with_bytes_at s b.param.offset (low_bytes 8 b.address)) (numbers_structure f arguments) (buffers_of f arguments address)

-- an argument is a block or null exactly where its parameter is marshalled
abbrev pub AreFit : List Param → List Argument → Type 0
AreFit [] [] = Unit {0}
AreFit (p ∷ params) (number n ∷ arguments) = (is_marshalled p.class ≡ false) × AreFit params arguments
AreFit (p ∷ params) (bytes block ∷ arguments) = (is_marshalled p.class ≡ true) × AreFit params arguments
AreFit _ _ = ⊥

-- what is known of an OCALL at its end
abbrev pub done_of : Result ProxyState Status → Result OcallDone Status
done_of (Ok s) = Ok (record { frame = s.frame; host = s.host; turn = s.turn; reply = record { value = s.value; loaded = s.loaded } })
done_of (Err status) = Err status

-- an OCALL that carries out a list
abbrev pub ocall_by_list : Machine → Handlers → Context → ℕ → List Argument → Function → List Instr → Interaction (Result OcallDone Status)
ocall_by_list m handlers cx ordinal arguments f list = map_value done_of (proxy_list_means m handlers cx ordinal arguments f list first_proxy)
