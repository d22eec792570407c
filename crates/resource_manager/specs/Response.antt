-- What the registers answer to a read, a write and a lock of one quadlet (IEEE Std 1394-1995, 6.2
-- and 8.3.2.3).
use Rattle.std.specs.Prelude.{ℕ, ◌==◌, Option, None, Some, if◌then◌else◌}
use Rattle.resource_manager.specs.declared.register.Register.{Register}
use Rattle.resource_manager.specs.declared.registers.Reply.{Reply}
use Rattle.resource_manager.specs.Register.{Values, register_at, value_of, with_value, cut}

-- an access that was carried out, with the value that it found
abbrev pub complete : ℕ → Reply
complete value = record { rcode = 0; value = value }

-- an access that was refused with a response code
abbrev pub refusal : ℕ → Reply
refusal code = record { rcode = code; value = 0 }

-- the register doesn't permit the access
abbrev pub type_error : Reply
type_error = refusal 6

-- there is no register at the offset
abbrev pub address_error : Reply
address_error = refusal 7

-- a read answers the value
abbrev pub read_reply : Values → ℕ → Reply
read_reply values offset = reply (register_at offset)
  where
    reply : Option Register → Reply
    reply None = address_error
    reply (Some register) = complete (value_of values register)

-- no register can be written
abbrev pub write_reply : ℕ → Reply
write_reply offset = reply (register_at offset)
  where
    reply : Option Register → Reply
    reply None = address_error
    reply (Some register) = type_error

-- the extended transaction code of compare_swap, the one lock that is permitted
abbrev pub compare_swap : ℕ
compare_swap = 2

-- a lock answers the value that it found
abbrev pub lock_reply : Values → ℕ → ℕ → Reply
lock_reply values offset kind = reply (register_at offset)
  where
    reply : Option Register → Reply
    reply None = address_error
    reply (Some register) =
        if kind == compare_swap then complete (value_of values register) else type_error

-- compare_swap: the register becomes the new value, cut to its width, where its value equals the
-- argument
abbrev pub after_swap : Values → Register → ℕ → ℕ → Values
after_swap values register arg value =
    if value_of values register == arg then
    with_value values register (cut register value)
    else values

-- a lock changes nothing but by compare_swap on a register
abbrev pub after_lock : Values → ℕ → ℕ → ℕ → ℕ → Values
after_lock values offset kind arg value = after (register_at offset)
  where
    after : Option Register → Values
    after None = values
    after (Some register) =
        if kind == compare_swap then after_swap values register arg value else values
