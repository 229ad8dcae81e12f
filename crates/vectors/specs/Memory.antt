-- A bridge whose words are written where there is memory. Assumes nothing.
use Rattle.std.specs.Prelude.{ℕ, ◌/◌, Bool, if◌then◌else◌, not, ◌&&◌, ◌==◌}
use Rattle.serial.specs.declared.Bridge.{Bridge}
use Rattle.serial.specs.declared.Bridge.TheVariants.{Stopped}
use Rattle.serial.specs.Upload.{Answer, reply}

abbrev pub has_memory : ℕ → Bool
has_memory a = not (a / 0x10000000 == 2)

-- a word that cannot be written where the bridge asks for it
abbrev pub refuses : Answer → Bool
refuses x = x.kind == 1 && not (has_memory x.address)

-- it is answered 0xE0, and stops the bridge
abbrev pub served : Answer → Answer
served x = if refuses x then reply 0xE0 else x

abbrev pub left : Answer → Bridge → Bridge
left x s = if refuses x then Stopped else s
