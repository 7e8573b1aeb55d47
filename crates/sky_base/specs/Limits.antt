-- The limits of the file system, of the wire and of the log. No other definition has a number of its own.
use Rattle.std.specs.Prelude.{ℕ, ◌^◌}

-- the most bytes that one READ or WRITE moves, and that a page of a listing has
abbrev pub max_transfer : ℕ
max_transfer = 65536

-- the most bytes of a file
abbrev pub max_file_bytes : ℕ
max_file_bytes = 2 ^ 30

-- the largest size of a directory
abbrev pub max_directory_bytes : ℕ
max_directory_bytes = 2 ^ 20

-- the next cookie of a directory that takes no further entry
abbrev pub max_cookie : ℕ
max_cookie = 2 ^ 62

-- the most bytes of a name
abbrev pub max_name_bytes : ℕ
max_name_bytes = 255

-- the most bytes of a symbolic link's text
abbrev pub max_link_text_bytes : ℕ
max_link_text_bytes = 1024

-- the most nodes of a volume
abbrev pub max_nodes : ℕ
max_nodes = 2 ^ 20

-- the next fileid of a volume in which no further node is made
abbrev pub max_fileid : ℕ
max_fileid = 2 ^ 26

-- the most links of a file
abbrev pub max_links : ℕ
max_links = 32000

-- the largest number of a volume
abbrev pub max_volume : ℕ
max_volume = 2 ^ 62

-- the most bytes of a record (record marking, RFC 5531 section 11)
abbrev pub max_record_bytes : ℕ
max_record_bytes = 131072

-- the most bytes of a credential's or a verifier's body (opaque_auth, RFC 5531 section 8.2)
abbrev pub max_auth_bytes : ℕ
max_auth_bytes = 400

-- the most bytes of a machine's name (authsys_parms, RFC 5531 appendix A)
abbrev pub max_machine_name_bytes : ℕ
max_machine_name_bytes = 255

-- the most further groups of a credential (authsys_parms, RFC 5531 appendix A)
abbrev pub max_gids : ℕ
max_gids = 16

-- the most bytes of a file handle (NFS3_FHSIZE, RFC 1813 section 2.4)
abbrev pub max_handle_bytes : ℕ
max_handle_bytes = 64

-- the most bytes of a path to mount (MNTPATHLEN, RFC 1813 section 5.1.4)
abbrev pub max_mount_path_bytes : ℕ
max_mount_path_bytes = 1024

-- the most bytes that a frame of a recorded session carries
abbrev pub max_payload_bytes : ℕ
max_payload_bytes = 2 ^ 20

-- how many sessions a recording may have, which are numbered from 0
abbrev pub max_sessions : ℕ
max_sessions = 256

-- what the number of an epoch or of a cleaner's run is below, and the number of an object within it
abbrev pub max_number : ℕ
max_number = 2 ^ 62

-- the most bytes of a block of a file
abbrev pub max_block_bytes : ℕ
max_block_bytes = 32768

-- how many fileids a page of the map of inodes is for, and the most inodes that it names
abbrev pub max_page_slots : ℕ
max_page_slots = 2048

-- how many pages the map of inodes has, which are numbered from 0
abbrev pub max_pages : ℕ
max_pages = 32768

-- the most bytes of an object of the cloud
abbrev pub max_object_bytes : ℕ
max_object_bytes = 4194304

-- the fewest and the most bytes of one of the journal's two areas
abbrev pub min_journal_area : ℕ
min_journal_area = 2 ^ 18

abbrev pub max_journal_area : ℕ
max_journal_area = 2 ^ 28
