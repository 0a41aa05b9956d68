-- The numbers of the statuses.
use Rattle.std.specs.Prelude.{◌≡◌}
use Rattle.sgx_base.specs.declared.TheConstants.Status.{SUCCESS, UNEXPECTED, INVALID_PARAMETER, OUT_OF_MEMORY, INVALID_FUNCTION, OUT_OF_TCS, ECALL_NOT_ALLOWED, STACK_OVERRUN}

-- each status has its number
pub record AreNumbered : Type 0 where
  pub success : SUCCESS.0 ≡ 0x0000
  pub unexpected : UNEXPECTED.0 ≡ 0x0001
  pub invalid_parameter : INVALID_PARAMETER.0 ≡ 0x0002
  pub out_of_memory : OUT_OF_MEMORY.0 ≡ 0x0003
  pub invalid_function : INVALID_FUNCTION.0 ≡ 0x1001
  pub out_of_tcs : OUT_OF_TCS.0 ≡ 0x1003
  pub ecall_not_allowed : ECALL_NOT_ALLOWED.0 ≡ 0x1007
  pub stack_overrun : STACK_OVERRUN.0 ≡ 0x1009
