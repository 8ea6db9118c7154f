-- What is shown of a table: one line for each key of the JSON, with what is read for it, how that is printed, and where people see it. Both views go by
-- these lines. That each field and object of every layout stands in them is `all_shown`. Definitions only.
use Rattle.std.specs.Prelude.{List, [], ◌∷◌, ◌++◌, ℕ, ◌+◌, ◌^◌, length, get_or, eqb}
use Prim.Native.String.{String}
use Rattle.table.specs.Bytes.{pick}
use Rattle.show_table.specs.declared.Row.{Row}
use Rattle.show_table.specs.declared.forms.Form.{Form}
use Rattle.show_table.specs.declared.forms.Form.TheVariants.{Nothing, Single, Listed, Unused, Position, Number, Signed, Flag, IsTwo}
use Rattle.show_table.specs.declared.forms.Form.TheVariants.{Primary, Availability, Wanted, Chosen, Transport, Uuid, Hex, Address, Server}
use Rattle.show_table.specs.declared.forms.Form.TheVariants.{Mac, ShortPci, Pci, NotIndicated, NidType, Nid, NumberIf, Name, OrNull}
use Rattle.show_table.specs.declared.forms.Form.TheVariants.{OrOut, IfThere, Text, BytesText, Reached, Service, Bytes, Hfis, HfiCount, Positions}
use Rattle.show_table.specs.declared.forms.View.{View}
use Rattle.show_table.specs.declared.forms.View.TheVariants.{Json, Lines, Detail, Column}

-- ---- a line

-- The key in JSON; the title or words for people; and the row: kind and offset of what is read, the way it is printed, the weight of a bit (or the kind of
-- a list's records), the offset of another field, and where people see it
pub record Line : Type 0 where
  pub key : String
  pub title : String
  pub row : Row

abbrev pub row : String → String → ℕ → ℕ → Form → View → Line
row key title kind off form view = record {
  key = key;
  title = title;
  row = record { kind = kind; off = off; form = form; weight = 0; by = 0; view = view };
}

abbrev weighed : ℕ → ℕ → Line → Line
weighed w b l = record {
  key = l.key;
  title = l.title;
  row = record { kind = l.row.kind; off = l.row.off; form = l.row.form; weight = w; by = b; view = l.row.view };
}

-- from bit b on
abbrev pub row_bit : ℕ → Line → Line
row_bit b l = weighed (2 ^ b) 0 l

-- with bit b of the field at y
abbrev pub row_by : ℕ → ℕ → Line → Line
row_by y b l = weighed (2 ^ b) y l

-- with the field at y
abbrev pub row_beside : ℕ → Line → Line
row_beside y l = weighed 0 y l

-- a list whose records are of kind k
abbrev pub row_of : ℕ → Line → Line
row_of k l = weighed k 0 l

-- ---- the lines

abbrev pub table_lines : List Line
table_lines =
    row "header" "NBFT Header" 0 0 Single Lines
    ∷ row "host" "NBFT Host" 2 0 Single Lines
    ∷ row_of 4 (row "subsystem" "NBFT Subsystems" 1 95 Listed Lines)
    ∷ row_of 3 (row "hfi" "NBFT HFIs" 1 87 Listed Lines)
    ∷ row_of 6 (row "discovery" "NBFT Discovery Controllers" 1 111 Listed Lines)
    ∷ row_of 5 (row "security" "NBFT Security" 1 103 Listed Lines)
    ∷ row "unused" "" 1 0 Unused Json
    ∷ []

abbrev pub header_lines : List Line
header_lines =
    row "oem_id" "OEM ID" 0 10 Name (Column 0)
    ∷ row "oem_table_id" "OEM Table ID" 0 16 Name (Column 1)
    ∷ row "oem_revision" "OEM Revision" 0 24 Number (Column 2)
    ∷ row "creator_id" "Creator ID" 0 28 Name (Column 3)
    ∷ row "creator_revision" "Creator Revision" 0 32 Number (Column 4)
    ∷ row "driver_signature" "Driver Signature" 0 44 BytesText (Column 5)
    ∷ []

abbrev pub host_lines : List Line
host_lines =
    row "nqn" "NQN" 2 18 Text (Column 1)
    ∷ row "id" "Host ID" 2 2 Uuid (Column 0)
    ∷ row_bit 1 (row "host_id_configured" "host ID configured" 2 1 Flag Lines)
    ∷ row_bit 2 (row "host_nqn_configured" "host NQN configured" 2 1 Flag Lines)
    ∷ row "primary_admin_host_flag" "" 2 1 NotIndicated Json
    ∷ row "flags" "flags" 2 1 Number Detail
    ∷ row_bit 3 (row "primary_admin_host" "primary administrative host" 2 1 Primary Lines)
    ∷ []

abbrev pub subsystem_lines : List Line
subsystem_lines =
    row "index" "Idx" 4 1 Position (Column 0)
    ∷ row_beside 46 (row "num_hfis" "" 4 48 HfiCount Json)
    ∷ row_beside 46 (row "hfis" "HFIs" 4 48 Hfis (Column 5))
    ∷ row "transport" "Trsp" 4 5 Transport (Column 2)
    ∷ row "traddr" "Address" 4 10 Reached (Column 3)
    ∷ row "trsvcid" "SvcId" 4 16 Service (Column 4)
    ∷ row "subsys_port_id" "port ID" 4 22 Number Lines
    ∷ row "nsid" "" 4 24 Signed Json
    ∷ row "nid_type" "NID type" 4 28 NidType Lines
    ∷ row_beside 28 (row "nid" "NID" 4 29 Nid Lines)
    ∷ row "subsys_nqn" "NQN" 4 54 Text (Column 1)
    ∷ row "controller_id" "controller ID" 9 8 Number Lines
    ∷ row_by 4 1 (row "asqsz" "admin queue size" 9 10 NumberIf Lines)
    ∷ row "dhcp_root_path_string" "DHCP root path" 9 12 Text Lines
    ∷ row_bit 1 (row "pdu_header_digest_required" "header digest" 4 6 Flag Lines)
    ∷ row_bit 2 (row "data_digest_required" "data digest" 4 6 Flag Lines)
    ∷ row_bit 6 (row "discovered" "discovered" 4 3 Flag Lines)
    ∷ row_bit 7 (row "unavailable" "" 4 3 IsTwo Json)
    ∷ row "flags" "flags" 4 3 Number Detail
    ∷ row "transport_flags" "transport flags" 4 6 Number Detail
    ∷ row_bit 1 (row "not_bootable" "not bootable" 4 3 Flag Lines)
    ∷ row_bit 3 (row "root_path_used" "root path used" 4 3 Flag Lines)
    ∷ row_bit 5 (row "separate_discovery" "separate discovery" 4 3 Flag Lines)
    ∷ row_bit 7 (row "availability" "availability" 4 3 Availability Lines)
    ∷ row_bit 0 (row "transport_flags_used" "transport flags used" 4 6 Flag Lines)
    ∷ row "discovery" "discovery" 4 8 OrNull Lines
    ∷ row "security" "security" 4 45 OrNull Lines
    ∷ row "primary_hfi" "primary HFI" 4 46 Number Detail
    ∷ row "secondary_hfis" "secondary HFIs" 4 48 Positions Detail
    ∷ row "traddr_bytes" "address bytes" 4 10 Bytes Detail
    ∷ row "trsvcid_bytes" "service bytes" 4 16 Bytes Detail
    ∷ row "namespace_id" "NSID" 4 24 Number Lines
    ∷ row "nid_type_number" "NID type number" 4 28 Number Detail
    ∷ row "nid_bytes" "NID bytes" 4 29 Hex Detail
    ∷ row "extended_info_flags" "extended info flags" 9 4 IfThere Detail
    ∷ row "extended_info_controller_id" "extended controller ID" 9 8 IfThere Detail
    ∷ row "extended_info_asqsz" "extended admin queue size" 9 10 IfThere Detail
    ∷ []

abbrev pub hfi_lines : List Line
hfi_lines =
    row "index" "Idx" 3 1 Position (Column 0)
    ∷ row "transport" "Trsp" 3 3 Transport (Column 1)
    ∷ row "pcidev" "" 7 7 ShortPci Json
    ∷ row "mac_addr" "MAC Addr" 7 11 Mac (Column 3)
    ∷ row "vlan" "VLAN" 7 17 Number Lines
    ∷ row "ip_origin" "IP origin" 7 19 Number Lines
    ∷ row "ipaddr" "IP Addr" 7 20 Address (Column 5)
    ∷ row "subnet_mask_prefix" "Mask" 7 36 Number (Column 6)
    ∷ row "gateway_ipaddr" "Gateway" 7 37 Address (Column 7)
    ∷ row "route_metric" "route metric" 7 54 Number Lines
    ∷ row "primary_dns_ipaddr" "DNS" 7 56 Address (Column 8)
    ∷ row "secondary_dns_ipaddr" "secondary DNS" 7 72 Address Lines
    ∷ row_by 6 2 (row "dhcp_server_ipaddr" "DHCP server" 7 88 Server Lines)
    ∷ row "host_name" "host name" 7 104 Text Lines
    ∷ row_bit 1 (row "this_hfi_is_default_route" "default route" 7 6 Flag Lines)
    ∷ row_bit 2 (row "dhcp_override" "DHCP" 7 6 Flag (Column 4))
    ∷ row "pci_address" "PCI Addr" 7 7 Pci (Column 2)
    ∷ row "info_version" "info version" 7 3 Number Detail
    ∷ row "flags" "flags" 7 6 Number Detail
    ∷ row_bit 3 (row "autoconfigured" "autoconfigured" 7 6 Flag Lines)
    ∷ row "record_flags" "record flags" 3 2 Number Detail
    ∷ row "extended_info_flags" "extended info flags" 10 4 IfThere Detail
    ∷ row "iaid" "IAID" 10 8 Bytes Lines
    ∷ row "duid" "DUID" 10 14 Bytes Lines
    ∷ []

abbrev pub discovery_lines : List Line
discovery_lines =
    row "index" "Idx" 6 2 Position (Column 0)
    ∷ row "security" "security" 6 4 OrOut Lines
    ∷ row "hfi" "HFI" 6 3 Number Lines
    ∷ row "uri" "URI" 6 6 Text (Column 1)
    ∷ row "nqn" "NQN" 6 12 Text (Column 2)
    ∷ row "flags" "flags" 6 1 Number Detail
    ∷ []

abbrev pub security_lines : List Line
security_lines =
    row "index" "Idx" 5 1 Position (Column 0)
    ∷ row "flags" "Flags" 5 2 Number (Column 1)
    ∷ row "secret_type" "secret type" 5 4 Number Lines
    ∷ row_bit 1 (row "authentication" "authentication" 5 2 Wanted Lines)
    ∷ row_bit 5 (row "secure_channel" "secure channel" 5 2 Wanted Lines)
    ∷ row_bit 3 (row "protocols_chosen_by" "protocols chosen by" 5 2 Chosen Lines)
    ∷ row "protocols" "Auths" 5 12 Bytes (Column 3)
    ∷ row_bit 7 (row "algorithms_chosen_by" "algorithms chosen by" 5 2 Chosen Lines)
    ∷ row "algorithms" "Channels" 5 6 Bytes (Column 2)
    ∷ row "cipher_suites" "Ciphers" 5 18 Bytes (Column 4)
    ∷ row "dh_groups" "Groups" 5 24 Bytes (Column 5)
    ∷ row "hash_functions" "Hashes" 5 30 Bytes (Column 6)
    ∷ row "keypath" "Keypath" 5 36 BytesText (Column 7)
    ∷ []

-- the sections by their number, which is the kind of the record; 1 is the table itself
unfoldable pub lines_of : ℕ → List Line
lines_of s =
    pick (eqb s 0) header_lines
    (pick (eqb s 1) table_lines
    (pick (eqb s 2) host_lines (pick (eqb s 3) hfi_lines (pick (eqb s 4) subsystem_lines (pick (eqb s 5) security_lines (pick (eqb s 6) discovery_lines []))))))

-- all of them, in the order in which they are shown
unfoldable pub lines : List Line
lines = table_lines ++ header_lines ++ host_lines ++ subsystem_lines ++ hfi_lines ++ discovery_lines ++ security_lines

-- where a section starts among them; that its lines stand there is `sections-in-place`
unfoldable pub first_of : ℕ → ℕ
first_of s =
    pick (eqb s 0) 7 (pick (eqb s 1) 0 (pick (eqb s 2) 13 (pick (eqb s 3) 57 (pick (eqb s 4) 20 (pick (eqb s 5) 87 (pick (eqb s 6) 81 0))))))

-- and where it ends
unfoldable pub end_of : ℕ → ℕ
end_of s = first_of s + length (lines_of s)

-- behind the last line
abbrev pub no_line : Line
no_line = row "" "" 0 0 Nothing Json

abbrev pub line_at : ℕ → Line
line_at i = get_or lines i no_line
