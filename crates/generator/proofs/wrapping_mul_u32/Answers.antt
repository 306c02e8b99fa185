-- The product of two numbers of 32 bits is one of 64.
use Rattle.std.proofs.Common.{arith}
use Rattle.generator.proofs.States.{product_small}
use Rattle.generator.proofs.wrapping_mul_u32.Goals as goal

pub overflow_mul-result : goal.overflow_mul-result
overflow_mul-result c = let a = c.args in record { fits = omega (arith, product_small a.a a.b (omega arith) (omega arith)) }
