-- What the adapters over std's readers and writers hold.
use Rattle.std.specs.Prelude.{ℕ}
use Rattle.io_edges.specs.declared.adapters.ReadSource.{ReadSource}
use Rattle.io_edges.specs.declared.adapters.WriteSink.{WriteSink}

-- the reader of a source
abbrev pub reader : {R : Type 0} → ReadSource R → R
reader source = source.inner

-- how often the reader failed
abbrev pub read_faults : {R : Type 0} → ReadSource R → ℕ
read_faults source = source.faults

-- the writer of a sink
abbrev pub writer : {W : Type 0} → WriteSink W → W
writer sink = sink.inner

-- how often the writer failed or took nothing
abbrev pub write_faults : {W : Type 0} → WriteSink W → ℕ
write_faults sink = sink.faults
