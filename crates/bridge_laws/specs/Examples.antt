-- Functions, and the lists of their bridges.
use Rattle.std.specs.Prelude.{◌≡◌, true, false, List, [], ◌∷◌, Some, None, codes, replicate, zip}
use Rattle.sgx_base.specs.declared.Passing.TheVariants.{Inward, Outward, Both}
use Rattle.edl_interface.specs.declared.Amount.TheVariants.{Number, Param as of_param}
use Rattle.edl_interface.specs.declared.Class.TheVariants.{Plain as by_value, UserCheck, Buffer, Text, Fixed, Foreign}
use Rattle.edl_interface.specs.declared.Function.{Function}
use Rattle.bridge_program.specs.declared.Instr.TheVariants.{Begin, NoFrame, Frame, Length, Outside, Fence, Divide, Alloc, CopyIn, Zero, TextEnd, Call, PutReturn, CopyOut, End, OBegin, OLength, OWithin, OTotal, OAdd, OTake, OField, OBuffer, OCopy, OEnter, OReturn, OBack, OEnd}
use Rattle.enclave_memory.specs.Arguments.{Argument, number, bytes}
use Rattle.ocall_frames.specs.Frames.{frame_bytes}
use Rattle.bridge_program.specs.Lists.{ecall_list, ocall_list}
use Rattle.bridge_laws.specs.Proxy.{laid}

-- `public uint64_t f([in, size=len] const uint8_t* buf, size_t len);`
abbrev pub buffer_function : Function
buffer_function = record {
  name = codes "f";
  is_public = true;
  switchless = false;
  ret = Some (record { size = 8; integer = true; signed = false });
  params = record { name = codes "buf"; offset = 8; class = Buffer Inward (of_param 1) (Number 1) 1 }
      ∷ record { name = codes "len"; offset = 16; class = by_value (record { size = 8; integer = true; signed = false }) }
      ∷ [];
  allow = [];
  frame_size = 24;
}

-- `public void z(void);`
abbrev pub bare_function : Function
bare_function = record {
  name = codes "z";
  is_public = true;
  switchless = false;
  ret = None;
  params = [];
  allow = [];
  frame_size = 0;
}

-- a parameter of each class: `public void g(uint32_t n, [user_check] void* u, [out, size=n] uint8_t* o, [in, out, string] char* s, [in, out] uint16_t a[2], foreign_t v);`
abbrev pub every_class : Function
every_class = record {
  name = codes "g";
  is_public = true;
  switchless = false;
  ret = None;
  params = record { name = codes "n"; offset = 0; class = by_value (record { size = 4; integer = true; signed = false }) }
      ∷ record { name = codes "u"; offset = 8; class = UserCheck }
      ∷ record { name = codes "o"; offset = 16; class = Buffer Outward (of_param 0) (Number 1) 1 }
      ∷ record { name = codes "s"; offset = 24; class = Text Both 1 }
      ∷ record { name = codes "a"; offset = 40; class = Fixed Both 4 2 }
      ∷ record { name = codes "v"; offset = 48; class = Foreign None }
      ∷ [];
  allow = [];
  frame_size = 56;
}

-- two fields at one offset, which no layout gives: the frame of an OCALL depends on which is written first
abbrev pub overlapping : Function
overlapping = record {
  name = codes "h";
  is_public = true;
  switchless = false;
  ret = None;
  params = record { name = codes "p"; offset = 0; class = Fixed Inward 1 1 }
      ∷ record { name = codes "n"; offset = 0; class = by_value (record { size = 8; integer = true; signed = false }) }
      ∷ [];
  allow = [];
  frame_size = 8;
}

-- a block of one byte, and a number
abbrev pub two_arguments : List Argument
two_arguments = bytes (Some (7 ∷ [])) ∷ number 5 ∷ []

pub record Examples : Type 0 where
  pub buffer_entry : ecall_list buffer_function ≡ Begin ∷ Frame ∷ Length 0 ∷ Outside 0 ∷ Fence ∷ Divide 0 ∷ Alloc 0 ∷ CopyIn 0 ∷ Call ∷ PutReturn ∷ End ∷ []
  pub bare_entry : ecall_list bare_function ≡ Begin ∷ NoFrame ∷ Call ∷ End ∷ []
  pub every_entry : ecall_list every_class
      ≡ Begin ∷ Frame ∷ Length 2 ∷ Length 3 ∷ Length 4 ∷ Outside 2 ∷ Outside 3 ∷ Outside 4 ∷ Fence
      ∷ Divide 2 ∷ Alloc 2 ∷ Zero 2 ∷ Divide 3 ∷ Alloc 3 ∷ CopyIn 3 ∷ TextEnd 3 ∷ Divide 4 ∷ Alloc 4 ∷ CopyIn 4
      ∷ Call ∷ CopyOut 2 ∷ CopyOut 3 ∷ CopyOut 4 ∷ End ∷ []
  pub buffer_proxy : ocall_list buffer_function ≡ OBegin ∷ OLength 0 ∷ OWithin 0 ∷ OTotal ∷ OAdd 0 ∷ OTake ∷ OBuffer 0 ∷ OField 1 ∷ OCopy 0 ∷ OEnter ∷ OReturn ∷ OEnd ∷ []
  pub bare_proxy : ocall_list bare_function ≡ OBegin ∷ OEnter ∷ OEnd ∷ []
  pub every_proxy : ocall_list every_class
      ≡ OBegin ∷ OLength 2 ∷ OLength 3 ∷ OLength 4 ∷ OWithin 2 ∷ OWithin 3 ∷ OWithin 4 ∷ OTotal ∷ OAdd 2 ∷ OAdd 3 ∷ OAdd 4 ∷ OTake
      ∷ OField 0 ∷ OField 1 ∷ OBuffer 2 ∷ OBuffer 3 ∷ OBuffer 4 ∷ OField 5 ∷ OCopy 3 ∷ OCopy 4 ∷ OEnter ∷ OBack 2 ∷ OBack 3 ∷ OBack 4 ∷ OEnd ∷ []
  pub number_last : laid overlapping two_arguments 0x10008 (replicate 8 0) (zip overlapping.params two_arguments) ≡ 5 ∷ 0 ∷ 0 ∷ 0 ∷ 0 ∷ 0 ∷ 0 ∷ 0 ∷ []
  pub address_last : frame_bytes overlapping two_arguments 0x10000 ≡ 8 ∷ 0 ∷ 1 ∷ 0 ∷ 0 ∷ 0 ∷ 0 ∷ 0 ∷ 7 ∷ []
