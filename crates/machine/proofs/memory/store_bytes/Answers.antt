use Rattle.machine.proofs.memory.store_bytes.Goals as goal

pub returns-in-One : goal.returns-in-One
returns-in-One c = rw (c.store_byte.ensures, c.in-One.is)

pub returns-in-Two : goal.returns-in-Two
returns-in-Two c =
    rw (c.store_byte-in-Two-2.ensures, c.store_byte-in-Two.ensures, c.plus-next.ensures, c.in-Two.is)

pub returns-in-Three : goal.returns-in-Three
returns-in-Three c =
    rw (c.store_byte-in-Three-3.ensures, c.store_byte-in-Three-2.ensures, c.store_byte-in-Three.ensures, c.plus-last.ensures, c.plus-next.ensures, c.in-Three.is)
