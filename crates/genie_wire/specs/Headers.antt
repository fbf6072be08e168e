-- The headers of records.
use Rattle.std.specs.Prelude.{◌≡◌, ℕ, ◌^◌, ◌<◌, List, length, slice_index, nat_le, IfSome}
use Rattle.genie_base.specs.Headers.{header_size, port_in, len_in, flow_in, is_valid_header}
use Rattle.genie_base.specs.Records.{header_bytes}
use Rattle.genie_wire.specs.declared.header.Header.{Header}

-- the bytes of a header
abbrev pub bytes_of : Header → List ℕ
bytes_of h = header_bytes h.port h.flow h.len

-- the header that bytes say
abbrev pub header_in : List ℕ → Header
header_in bytes = record { port = port_in bytes; flow = flow_in bytes; len = len_in bytes }

-- so many bytes as their first two ask for
abbrev pub IsWhole : List ℕ → Type 0
IsWhole bytes = length bytes ≡ header_size (slice_index bytes 0) (slice_index bytes 1)

-- numbers that a header has room for
pub record Fits (h : Header) : Type 0 where
  pub port : h.port < 2 ^ 16
  pub flow : IfSome h.flow (λ flow. flow < 2 ^ 32)
  pub len : h.len < 2 ^ 32

-- What is written is whole, is read as the same header, and is valid exactly where its length is.
pub record ReadsBack (h : Header) : Type 0 where
  pub whole : IsWhole (bytes_of h)
  pub same : header_in (bytes_of h) ≡ h
  pub valid : (most : ℕ) → is_valid_header most (bytes_of h) ≡ nat_le h.len most

abbrev pub AllReadBack : Type 0
AllReadBack = (h : Header) → Fits h → ReadsBack h
