-- A function done so many times.
use Rattle.std.specs.Prelude.{ℕ, zero, suc}

-- f done k times to x
unfoldable pub iter : {A : Type 0} → ℕ → (A → A) → A → A
iter zero f x = x
iter (suc k) f x = f (iter k f x)
